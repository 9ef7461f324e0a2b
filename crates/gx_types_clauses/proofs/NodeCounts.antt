-- The number of nodes of expressions that are counted one after the other.
use Rattle.std.proofs.Common.{◌≡◌, ℕ, suc, ◌+◌, ◌<◌, ◌≤◌, ◌^◌, List, length, map, drop, get_or, ap, ◌∙◌, arith}
use Rattle.std.specs.Prelude.{sum}
use Rattle.std.proofs.lemmas.List.{drop_all}
use Rattle.std.proofs.lemmas.List.Sums.{sum_by-cons}
use Rattle.gx_syntax_tree.specs.Bounds.{node_count, node_count-roll}
use Rattle.gx_syntax_tree.specs.declared.expr.Expr.{Expr, roll-Expr}
use Rattle.gx_syntax_tree.specs.declared.expr.Expr.TheOpen as layer
use Rattle.gx_syntax_tree.specs.declared.parts.ColumnExpr.{ColumnExpr}
use Rattle.gx_types_clauses.specs.ValueTyping.{column_values}
use Rattle.gx_types_clauses.proofs.ValueWalk.{column-at, rest-is}

-- the nodes of the first i expressions
pub record IsCountOf (xs : List Expr) (i count : ℕ) : Type 0 where
  pub counted : count + sum (map node_count (drop i xs)) ≡ sum (map node_count xs)

pub count-split : (xs : List Expr) (i : ℕ) (x : Expr) → i < length xs → x ≡ get_or xs i x
    → sum (map node_count (drop i xs)) ≡ node_count x + sum (map node_count (drop (i + 1) xs))
count-split xs i x below is =
    ap (λ ys. sum (map node_count ys)) (rest-is xs i x below is) ∙ sum_by-cons (λ n. n) (node_count x) (map node_count (drop (i + 1) xs))

pub count-fits : (xs : List Expr) (i count : ℕ) (x : Expr) → i < length xs → x ≡ get_or xs i x → IsCountOf xs i count
    → count + node_count x ≤ sum (map node_count xs)
count-fits xs i count x below is h = omega (arith, h.counted, count-split xs i x below is)

pub count-more : (xs : List Expr) (i count : ℕ) (x : Expr) → i < length xs → x ≡ get_or xs i x → IsCountOf xs i count → IsCountOf xs (i + 1) (count + node_count x)
count-more xs i count x below is h = record { counted = omega (arith, h.counted, count-split xs i x below is) }

pub count-all : (xs : List Expr) (i count : ℕ) → length xs ≤ i → IsCountOf xs i count → count ≡ sum (map node_count xs)
count-all xs i count past h =
    let rest : sum (map node_count (drop i xs)) ≡ 0 = ap (λ ys. sum (map node_count ys)) (drop_all i xs past) in
    omega (arith, h.counted)

-- the same of the expressions of columns
pub column-fits : (sets : List ColumnExpr) (i count : ℕ) (x : ColumnExpr) → i < length sets → x ≡ get_or sets i x → IsCountOf (column_values sets) i count
    → sum (map node_count (column_values sets)) < 2 ^ 32 → count + node_count x.value < 2 ^ 32
column-fits sets i count x below is h few =
    let at = column-at sets i x below is in
    omega (arith, count-fits (column_values sets) i count x.value at.0 at.1 h)

pub column-more : (sets : List ColumnExpr) (i count : ℕ) (x : ColumnExpr) → i < length sets → x ≡ get_or sets i x → IsCountOf (column_values sets) i count
    → IsCountOf (column_values sets) (i + 1) (count + node_count x.value)
column-more sets i count x below is h = let at = column-at sets i x below is in count-more (column_values sets) i count x.value at.0 at.1 h

-- the nodes of a call
pub count-call : (name : List ℕ) (xs : List Expr) → node_count (roll-Expr (layer.Call name xs)) ≡ suc (sum (map node_count xs))
count-call name xs = node_count-roll (layer.Call name xs)
