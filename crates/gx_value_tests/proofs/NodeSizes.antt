-- The nodes and the texts of expressions that are counted one after the other.
use Rattle.std.proofs.Common.{◌≡◌, ℕ, suc, ◌+◌, ◌<◌, ◌≤◌, Option, None, Some, List, [], ◌∷◌, ◌++◌, length, map, take, get_or, sym, ap, subst, ◌∙◌, arith}
use Rattle.std.specs.Prelude.{All, IfSome, flat_map, sum}
use Rattle.std.proofs.lemmas.Grind.{flat_map-append}
use Rattle.std.proofs.lemmas.List.{append-nil, map-append, take_all, take_more}
use Rattle.std.proofs.lemmas.List.Elements.{All-append}
use Rattle.std.proofs.lemmas.List.Sums.{sum_by-append, sum_by-cons}
use Rattle.gx_syntax_tree.specs.Bounds.{IsBoundedText, node_count, node_count-roll, texts_in_expr, texts_in_expr-roll}
use Rattle.gx_syntax_tree.specs.declared.expr.BinaryOp.{BinaryOp}
use Rattle.gx_syntax_tree.specs.declared.expr.Expr.{Expr}
use Rattle.gx_syntax_tree.specs.declared.expr.Expr.TheOpen as layer
use Rattle.gx_syntax_tree.specs.declared.expr.Expr.TheVariants as exprs
use Rattle.gx_syntax_tree.specs.declared.expr.Expr.TheVariants.{rolls-Binary, rolls-Call}

abbrev texts_of : List Expr → List (List ℕ)
texts_of xs = flat_map (λ x. x) (map texts_in_expr xs)

-- so many are left after the first i
pub record IsLeftOf (xs : List Expr) (most i rest : ℕ) : Type 0 where
  pub counted : rest + sum (map node_count (take i xs)) ≡ most
  pub short : All IsBoundedText (texts_of (take i xs))

pub left-next : (xs : List Expr) (most i rest more : ℕ) (x : Expr) → i < length xs → x ≡ get_or xs i x → IsLeftOf xs most i rest → more + node_count x ≡ rest → All IsBoundedText (texts_in_expr x) → IsLeftOf xs most (i + 1) more
left-next xs most i rest more x below is h counted short =
    let next : take (i + 1) xs ≡ take i xs ++ x ∷ [] = take_more xs i x below ∙ ap (λ y. take i xs ++ y ∷ []) (sym is) in
    let counts : map node_count (take i xs ++ x ∷ []) ≡ map node_count (take i xs) ++ node_count x ∷ [] = map-append node_count (take i xs) (x ∷ []) in
    let total : sum (map node_count (take i xs ++ x ∷ [])) ≡ sum (map node_count (take i xs)) + sum (node_count x ∷ []) = ap sum counts ∙ sum_by-append (λ n. n) (map node_count (take i xs)) (node_count x ∷ []) in
    let one : sum (node_count x ∷ []) ≡ node_count x + sum [] = sum_by-cons (λ n. n) (node_count x) [] in
    let texts : texts_of (take i xs ++ x ∷ []) ≡ texts_of (take i xs) ++ texts_in_expr x =
    ap (flat_map (λ x. x)) (map-append texts_in_expr (take i xs) (x ∷ [])) ∙ flat_map-append (λ x. x) (map texts_in_expr (take i xs)) (texts_in_expr x ∷ []) ∙ ap (λ ts. texts_of (take i xs) ++ ts) (append-nil (texts_in_expr x)) in
    record {
      counted = omega (arith, h.counted, counted, total, one, ap (λ ys. sum (map node_count ys)) next);
      short = subst (λ ys. All IsBoundedText (texts_of ys)) (sym next) (subst (All IsBoundedText) (sym texts) (All-append IsBoundedText (texts_of (take i xs)) (texts_in_expr x) h.short short));
    }

pub left-all : (xs : List Expr) (most i rest : ℕ) → length xs ≤ i → IsLeftOf xs most i rest → (rest + sum (map node_count xs) ≡ most) × All IsBoundedText (texts_of xs)
left-all xs most i rest past h =
    let all : take i xs ≡ xs = take_all i xs past in
    (subst (λ ys. rest + sum (map node_count ys) ≡ most) all h.counted, subst (λ ys. All IsBoundedText (texts_of ys)) all h.short)

pub count-call : (name : List ℕ) (xs : List Expr) → node_count (exprs.Call name xs) ≡ suc (sum (map node_count xs))
count-call name xs = ap node_count (sym (rolls-Call name xs)) ∙ node_count-roll (layer.Call name xs)

pub texts-call : (name : List ℕ) (xs : List Expr) → texts_in_expr (exprs.Call name xs) ≡ texts_of xs
texts-call name xs = ap texts_in_expr (sym (rolls-Call name xs)) ∙ texts_in_expr-roll (layer.Call name xs)

pub texts-binary : (o : BinaryOp) (a b : Expr) → texts_in_expr (exprs.Binary o a b) ≡ texts_in_expr a ++ texts_in_expr b
texts-binary o a b = ap texts_in_expr (sym (rolls-Binary o a b)) ∙ texts_in_expr-roll (layer.Binary o a b)

-- one node more
pub counted-moved : (r : Option ℕ) (n m k l : ℕ) → m + 1 ≡ k → l ≡ suc n → IfSome r (λ x. x + n ≡ m) → IfSome r (λ x. x + l ≡ k)
counted-moved (Some x) n m k l e f h = omega arith
counted-moved None n m k l e f h = tt

pub short-joined : (r : Option ℕ) (ts us : List (List ℕ)) → All IsBoundedText ts → IfSome r (λ _. All IsBoundedText us) → IfSome r (λ _. All IsBoundedText (ts ++ us))
short-joined (Some x) ts us h k = All-append IsBoundedText ts us h k
short-joined None ts us h k = tt
