-- The depths of the arguments of a call.
use Rattle.std.proofs.Common.{◌≡◌, ℕ, suc, ◌+◌, ◌-◌, ◌<◌, ◌≤◌, nat_le, true, false, List, ◌∷◌, length, map, max, drop, get_or, ap, sym, ◌∙◌, arith}
use Rattle.std.proofs.lemmas.List.{drop_all, drop_more}
use Rattle.gx_syntax_tree.specs.Bounds.{depth, greatest}
use Rattle.gx_syntax_tree.specs.declared.expr.Expr.{Expr}

abbrev pub are_within : List Expr → ℕ → ℕ → Type 0
are_within xs i most = nat_le (greatest (map depth (drop i xs))) most ≡ nat_le (greatest (map depth xs)) most

greatest-is : (xs : List Expr) (i : ℕ) (x : Expr) → i < length xs → x ≡ get_or xs i x
    → greatest (map depth (drop i xs)) ≡ max (depth x) (greatest (map depth (drop (i + 1) xs)))
greatest-is xs i x below is = ap (λ ys. greatest (map depth ys)) (drop_more xs i x below ∙ ap (λ y. y ∷ drop (i + 1) xs) (sym is))

-- a test of the greater of two is one of both
max-within : (a b m : ℕ) → nat_le a m ≡ true → nat_le (max a b) m ≡ nat_le b m
max-within a b m h = grind arith

max-past : (a b m : ℕ) → nat_le a m ≡ false → nat_le (max a b) m ≡ false
max-past a b m h = grind arith

pub within-next : (xs : List Expr) (i : ℕ) (x : Expr) (most : ℕ) → i < length xs → x ≡ get_or xs i x → nat_le (depth x) most ≡ true → are_within xs i most → are_within xs (i + 1) most
within-next xs i x most below is within so_far =
    sym (max-within (depth x) (greatest (map depth (drop (i + 1) xs))) most within) ∙ ap (λ g. nat_le g most) (sym (greatest-is xs i x below is)) ∙ so_far

pub within-stop : (xs : List Expr) (i : ℕ) (x : Expr) (most : ℕ) → i < length xs → x ≡ get_or xs i x → nat_le (depth x) most ≡ false → are_within xs i most → nat_le (greatest (map depth xs)) most ≡ false
within-stop xs i x most below is past so_far =
    sym so_far ∙ ap (λ g. nat_le g most) (greatest-is xs i x below is) ∙ max-past (depth x) (greatest (map depth (drop (i + 1) xs))) most past

pub within-all : (xs : List Expr) (i most : ℕ) → length xs ≤ i → are_within xs i most → nat_le (greatest (map depth xs)) most ≡ true
within-all xs i most past so_far = sym so_far ∙ rw (drop_all i xs past) (grind arith)

-- one level deeper
pub suc-within : (g m : ℕ) → 0 < m → nat_le (suc g) m ≡ nat_le g (m - 1)
suc-within g m h = grind arith
