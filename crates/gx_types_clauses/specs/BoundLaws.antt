-- Parts of what is typable are typable.
use Rattle.std.proofs.Common.{◌≡◌, ◌+◌, ◌∙◌, All, List, [], ◌∷◌, ◌++◌, length, map, take, drop}
use Rattle.std.proofs.Common.{lit<, subst, ap, arith}
use Rattle.std.specs.Prelude.{sum}
use Rattle.std.proofs.lemmas.List.{append-nil, map-append, take-append-le, drop-append-le, take_all}
use Rattle.std.proofs.lemmas.List.{drop_all}
use Rattle.std.proofs.lemmas.List.Elements.{All-drop, All-take}
use Rattle.std.proofs.lemmas.List.Sums.{sum_by-append, sum_by-cons}
use Rattle.gx_syntax_tree.specs.Bounds.{node_count}
use Rattle.gx_syntax_tree.specs.declared.expr.Expr.{Expr}
use Rattle.gx_types_clauses.specs.ClauseBounds.{AreTypable, HasShortTexts}

-- a lone expression
pub lone_short : (x : Expr) → All HasShortTexts (x ∷ []) → HasShortTexts x
lone_short x h = h 0 x (lit< tt)

pub lone_counted : (x : Expr) → sum (map node_count (x ∷ [])) ≡ node_count x
lone_counted x = let one = sum_by-cons (λ n. n) (node_count x) [] in omega (arith, one)

-- ---- expressions before others

pub left_short : (xs ys : List Expr) → All HasShortTexts (xs ++ ys) → All HasShortTexts xs
left_short xs ys h =
    let first : take (length xs) (xs ++ ys) ≡ xs =
    take-append-le (length xs) xs ys (omega arith) ∙ take_all (length xs) xs (omega arith) in
    subst (All HasShortTexts) first (All-take HasShortTexts (length xs) (xs ++ ys) h)

pub right_short : (xs ys : List Expr) → All HasShortTexts (xs ++ ys) → All HasShortTexts ys
right_short xs ys h =
    let rest : drop (length xs) (xs ++ ys) ≡ ys =
    drop-append-le (length xs) xs ys (omega arith)
    ∙ ap (λ zs. zs ++ ys) (drop_all (length xs) xs (omega arith)) in
    subst (All HasShortTexts) rest (All-drop HasShortTexts (length xs) (xs ++ ys) h)

pub joined_counted : (xs ys : List Expr)
    → sum (map node_count (xs ++ ys)) ≡ sum (map node_count xs) + sum (map node_count ys)
joined_counted xs ys =
    ap sum (map-append node_count xs ys)
    ∙ sum_by-append (λ n. n) (map node_count xs) (map node_count ys)

-- nothing after them
pub whole_typable : (xs : List Expr) → AreTypable (xs ++ []) → AreTypable xs
whole_typable xs h = subst AreTypable (append-nil xs) h

pub left_typable : (xs ys : List Expr) → AreTypable (xs ++ ys) → AreTypable xs
left_typable xs ys h = record {
  few_nodes = omega (arith, h.few_nodes, joined_counted xs ys);
  short_texts = left_short xs ys h.short_texts;
}
