-- A sorted list with the same numbers is the list in ascending order.
use Rattle.std.proofs.Common.{◌≡◌, ◌+◌, ◌<◌, ◌≤◌, ℕ, ℤ, Bool, true, false, cond, List, [], ◌∷◌, length, refl, sym, ap, ◌∙◌, arith, zero, suc, add-one, IsPermutation, IsSorted}
use Rattle.std.specs.Prelude.{◌≤ℤ◌, int_lt, sum_by, ⊤}
use Rattle.std.specs.List.{AllByRecursion}
use Rattle.std.specs.Ordering.{int_cmp, int_eq, is_lt}
use Rattle.std.proofs.lemmas.Int.{ints}
use Rattle.std.proofs.lemmas.List.Sorted.{sum_by-IsPermutation}
use Rattle.std.proofs.lemmas.List.Sums.{sum_by-cons}
use Rattle.gx_load.specs.Ascending.{ascending, with_number}

-- each number is at most those after it
abbrev Ascends : List ℤ → Type 0
Ascends [] = ⊤
Ascends (x ∷ xs) = AllByRecursion (λ y. x ≤ℤ y) xs × Ascends xs

at_most : (x y : ℤ) → int_lt y x ≡ false → x ≤ℤ y
at_most x y h = grind (arith, ints)

below : (x y : ℤ) → int_lt x y ≡ true → x ≤ℤ y
below x y h = grind (arith, ints)

all_above : (x y : ℤ) (zs : List ℤ) → x ≤ℤ y → AllByRecursion (λ z. y ≤ℤ z) zs → AllByRecursion (λ z. x ≤ℤ z) zs
all_above x y [] h all = tt
all_above x y (z ∷ zs) h all = (omega (arith, ints, all.0), all_above x y zs h all.1)

-- ---- the definition ascends

all_with_number : (P : ℤ → Type 0) (new : ℤ) (xs : List ℤ) → P new → AllByRecursion P xs → AllByRecursion P (with_number new xs)
all_with_number P new [] h all = (h, tt)
all_with_number P new (x ∷ xs) h all =
    elim (int_lt x new) as (λ b. AllByRecursion P (cond b (x ∷ with_number new xs) (new ∷ x ∷ xs))) [
      | true ↦ (all.0, all_with_number P new xs h all.1)
      | false ↦ (h, all)
    ]

Ascends-with_number : (new : ℤ) (xs : List ℤ) → Ascends xs → Ascends (with_number new xs)
Ascends-with_number new [] up = (tt, tt)
Ascends-with_number new (x ∷ xs) up = go (int_lt x new) refl (Ascends-with_number new xs up.1)
  where
    go : (b : Bool) → int_lt x new ≡ b → Ascends (with_number new xs) → Ascends (cond b (x ∷ with_number new xs) (new ∷ x ∷ xs))
    go true e more = (all_with_number (λ z. x ≤ℤ z) new xs (below x new e) up.0, more)
    go false e more = ((at_most new x e, all_above new x xs (at_most new x e) up.0), up)

Ascends-ascending : (xs : List ℤ) → Ascends (ascending xs)
unfolding ascending
Ascends-ascending [] = tt
Ascends-ascending (x ∷ xs) = Ascends-with_number x (ascending xs) (Ascends-ascending xs)

-- ---- it has the same numbers, as often

sum_by-with_number : (f : ℤ → ℕ) (new : ℤ) (xs : List ℤ) → sum_by f (with_number new xs) ≡ f new + sum_by f xs
sum_by-with_number f new [] = sum_by-cons f new []
sum_by-with_number f new (x ∷ xs) =
    elim (int_lt x new) as (λ b. sum_by f (cond b (x ∷ with_number new xs) (new ∷ x ∷ xs)) ≡ f new + sum_by f (x ∷ xs)) [
      | true ↦ omega (arith, sum_by-cons f x (with_number new xs), sum_by-cons f x xs, sum_by-with_number f new xs)
      | false ↦ sum_by-cons f new (x ∷ xs)
    ]

sum_by-ascending : (f : ℤ → ℕ) (xs : List ℤ) → sum_by f (ascending xs) ≡ sum_by f xs
unfolding ascending
sum_by-ascending f [] = refl
sum_by-ascending f (x ∷ xs) = omega (arith, sum_by-with_number f x (ascending xs), sum_by-cons f x xs, sum_by-ascending f xs)

pub length-ascending : (xs : List ℤ) → length (ascending xs) ≡ length xs
unfolding ascending
length-ascending [] = refl
length-ascending (x ∷ xs) = omega (arith, longer x (ascending xs), length-ascending xs)
  where
    longer : (new : ℤ) (ys : List ℤ) → length (with_number new ys) ≡ 1 + length ys
    longer new [] = refl
    longer new (y ∷ ys) =
        elim (int_lt y new) as (λ b. length (cond b (y ∷ with_number new ys) (new ∷ y ∷ ys)) ≡ 1 + length (y ∷ ys)) [
          | true ↦ omega (arith, longer new ys)
          | false ↦ omega arith
        ]

-- ---- two ascending lists with the same numbers are the same

-- how often a number is in a list
times : ℤ → List ℤ → ℕ
times x ys = sum_by (λ y. cond (int_eq y x) 1 0) ys

times-none : (x : ℤ) → times x [] ≡ 0
unfolding times
times-none x = refl

times-cons : (x y : ℤ) (ys : List ℤ) → times x (y ∷ ys) ≡ cond (int_eq y x) 1 0 + times x ys
unfolding times
times-cons x y ys = sum_by-cons (λ z. cond (int_eq z x) 1 0) y ys

is_itself : (x : ℤ) → int_eq x x ≡ true
is_itself x = grind (arith, ints)

is_equal : (x y : ℤ) → int_eq x y ≡ true → x ≡ y
is_equal x y h = grind (arith, ints)

times-itself : (x : ℤ) (ys : List ℤ) → 1 ≤ times x (x ∷ ys)
times-itself x ys = rw (times-cons x x ys, is_itself x) (omega arith)

-- a number in a list is at least what all its numbers are at least
least : (x y : ℤ) (zs : List ℤ) → AllByRecursion (λ z. y ≤ℤ z) zs → 1 ≤ times x zs → y ≤ℤ x
least x y [] all h = absurd (omega (arith, times-none x))
least x y (z ∷ zs) all h = go (int_eq z x) refl (rw (times-cons x z zs) at h) (least x y zs all.1)
  where
    go : (b : Bool) → int_eq z x ≡ b → 1 ≤ cond b 1 0 + times x zs → (1 ≤ times x zs → y ≤ℤ x) → y ≤ℤ x
    go true e h more = let P : ℤ → Type 0 = λ v. y ≤ℤ v in Rattle.std.proofs.Common.subst P (is_equal z x e) all.0
    go false e h more = more (omega arith)

same_numbers : (xs ys : List ℤ) → Ascends xs → Ascends ys → ((x : ℤ) → times x xs ≡ times x ys) → xs ≡ ys
same_numbers [] [] up vp same = refl
same_numbers [] (y ∷ ys) up vp same = absurd (omega (arith, times-itself y ys, same y, times-none y))
same_numbers (x ∷ xs) [] up vp same = absurd (omega (arith, times-itself x xs, same x, times-none x))
same_numbers (x ∷ xs) (y ∷ ys) up vp same =
    let low : y ≤ℤ x = least x y (y ∷ ys) (omega (arith, ints), vp.0) (omega (arith, times-itself x xs, same x)) in
    let high : x ≤ℤ y = least y x (x ∷ xs) (omega (arith, ints), up.0) (omega (arith, times-itself y ys, same y)) in
    let head : x ≡ y = omega (arith, ints) in
    let rest = same_numbers xs ys up.1 vp.1 (λ z. rest_same z head (same z)) in
    λ i. head i ∷ rest i
  where
    rest_same : (z : ℤ) → x ≡ y → times z (x ∷ xs) ≡ times z (y ∷ ys) → times z xs ≡ times z ys
    rest_same z e h =
        let f : ◌≡◌ {A = ℕ} (cond (int_eq x z) 1 0) (cond (int_eq y z) 1 0) = ap (λ (v : ℤ). cond (int_eq v z) 1 0) e in
        omega (arith, f, h, times-cons z x xs, times-cons z y ys)

-- ---- what a sort gives ascends

Ascends-sorted : (xs : List ℤ) → IsSorted int_cmp xs → Ascends xs
Ascends-sorted [] sorted = tt
Ascends-sorted (x ∷ xs) sorted =
    let tail : IsSorted int_cmp xs = λ k d p q. rw add-one (rw add-one at (sorted (suc k) d (omega arith) (omega arith))) in
    let up = Ascends-sorted xs tail in
    (above xs sorted up, up)
  where
    above : (ys : List ℤ) → IsSorted int_cmp (x ∷ ys) → Ascends ys → AllByRecursion (λ y. x ≤ℤ y) ys
    above [] sorted up = tt
    above (y ∷ ys) sorted up =
        let first : x ≤ℤ y = not_below (sorted 0 x (omega arith) (omega arith)) in
        (first, all_above x y ys first up.0)
      where
        not_below : is_lt (int_cmp y x) ≡ false → x ≤ℤ y
        not_below h = grind (arith, ints)

-- the list that a sort gives is the list in ascending order
pub sorted_is_ascending : (xs ys : List ℤ) → IsSorted int_cmp ys → IsPermutation xs ys → ys ≡ ascending xs
unfolding times
sorted_is_ascending xs ys sorted moved =
    same_numbers ys (ascending xs) (Ascends-sorted ys sorted) (Ascends-ascending xs)
    (λ x. sum_by-IsPermutation (λ y. cond (int_eq y x) 1 0) xs ys moved ∙ sym (sum_by-ascending (λ y. cond (int_eq y x) 1 0) xs))
