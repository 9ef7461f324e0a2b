-- Ascending lists of numbers: two with the same entries are equal.
use Rattle.std.proofs.Common.{◌≡◌, ℕ, suc, ◌+◌, ◌<◌, ◌≤◌, nat_le, ltb, ℤ, int_le, Bool, true, false, if◌then◌else◌, Result, Ok, Err, IfOk, is_ok, List, [], ◌∷◌, ◌++◌, length, get_or, refl, sym, ap, arith, IsSorted, IsPermutation}
use Rattle.std.specs.List.{sum_by}
use Rattle.std.specs.List.Sorted.{IsBinarySearchResult, IsPartitionPoint, IsSearchInRange}
use Rattle.std.specs.Ordering.{int_cmp, int_eq, is_eq, is_lt}
use Rattle.std.specs.declared.cmp.Ordering.TheVariants.{Less, Greater}
use Rattle.std.proofs.lemmas.Bool.{le-leb, lt-leb, ltb-false, ltb-true}
use Rattle.std.proofs.lemmas.Cmp.{int_cmp_total}
use Rattle.std.proofs.lemmas.Int.{ints}
use Rattle.std.proofs.lemmas.List.{nil_from_length}
use Rattle.std.proofs.lemmas.List.Folds.{list_any_at, list_any_none}
use Rattle.std.proofs.lemmas.List.Sorted.{length_permutation, searchable_from_sorted, sum_by-IsPermutation}
use Rattle.std.proofs.lemmas.List.Sums.{sum_by-append}
use Rattle.gx_rows.specs.declared.cause.Cause.TheVariants as cause
use Rattle.gx_rows.specs.declared.value.Value.TheVariants as value
use Rattle.gx_expr.specs.Evaluation.{bounded_list, has_entry, with_entry}

le-trans : (x y z : ℤ) → int_le x y ≡ true → int_le y z ≡ true → int_le x z ≡ true
le-trans x y z p q = grind (arith, ints)

le-antisym : (x y : ℤ) → int_le x y ≡ true → int_le y x ≡ true → x ≡ y
le-antisym x y p q = grind (arith, ints)

le-flip : (x y : ℤ) → int_le x y ≡ false → int_le y x ≡ true
le-flip x y p = grind (arith, ints)

le-not_lt : (x y : ℤ) → is_lt (int_cmp y x) ≡ false → int_le x y ≡ true
le-not_lt x y p = grind (arith, ints)

-- no entry is less than z
abbrev AtLeast : ℤ → List ℤ → Type 0
AtLeast z [] = Unit {0}
AtLeast z (x ∷ xs) = (int_le z x ≡ true) × AtLeast z xs

abbrev Ascends : List ℤ → Type 0
Ascends [] = Unit {0}
Ascends (x ∷ xs) = AtLeast x xs × Ascends xs

at_least-trans : (x y : ℤ) (zs : List ℤ) → int_le x y ≡ true → AtLeast y zs → AtLeast x zs
at_least-trans x y [] p a = tt
at_least-trans x y (z ∷ zs) p a = (le-trans x y z p a.0, at_least-trans x y zs p a.1)

rest-sorted : (x : ℤ) (xs : List ℤ) → IsSorted int_cmp (x ∷ xs) → IsSorted int_cmp xs
rest-sorted x xs s k d low high =
    let h = s (suc k) d (omega arith) (omega arith) in
    let e : suc k + 1 ≡ suc (k + 1) = omega arith in
    rw e at h

pub ascends : (xs : List ℤ) → IsSorted int_cmp xs → Ascends xs
ascends [] s = tt
ascends (x ∷ []) s = (tt, tt)
ascends (x ∷ y ∷ ys) s =
    let rest = ascends (y ∷ ys) (rest-sorted x (y ∷ ys) s) in
    let first = le-not_lt x y (s 0 x (omega arith) (omega arith)) in
    ((first, at_least-trans x y ys first rest.0), rest)

-- the sum of f over the entries
abbrev total : (ℤ → ℕ) → List ℤ → ℕ
total f [] = 0
total f (x ∷ xs) = f x + total f xs

total-sum_by : (f : ℤ → ℕ) (xs : List ℤ) → sum_by f xs ≡ total f xs
total-sum_by f [] = refl
total-sum_by f (x ∷ xs) = let e = sum_by-append f (x ∷ []) xs in let rest = total-sum_by f xs in omega (arith, e, rest)

-- 1 for what is less than z
abbrev less : ℤ → ℤ → ℕ
less z x = if int_le z x then 0 else 1

none-less : (z : ℤ) (xs : List ℤ) → AtLeast z xs → total (less z) xs ≡ 0
none-less z [] a = refl
none-less z (x ∷ xs) a = let e : int_le z x ≡ true = a.0 in let rest = none-less z xs a.1 in rw e (omega (arith, rest))

not-less : (z x : ℤ) → less z x ≡ 0 → int_le z x ≡ true
not-less z x e = go (int_le z x) e
  where
    go : (b : Bool) → ◌≡◌ {A = ℕ} (if b then 0 else 1) 0 → b ≡ true
    go true h = refl
    go false h = absurd (omega arith)

-- the least entry of one list is at most the first of the other
first-least : (x y : ℤ) (xs ys : List ℤ) → AtLeast y ys → total (less y) (x ∷ xs) ≡ total (less y) (y ∷ ys) → int_le y x ≡ true
first-least x y xs ys a e =
    let none = none-less y (y ∷ ys) (grind (arith, ints), a) in
    not-less y x (omega (arith, e, none))

same : (xs ys : List ℤ) → Ascends xs → Ascends ys → ((f : ℤ → ℕ) → total f xs ≡ total f ys) → xs ≡ ys
same [] [] a b e = refl
same [] (y ∷ ys) a b e = let h = e (λ z. 1) in absurd (omega (arith, h))
same (x ∷ xs) [] a b e = let h = e (λ z. 1) in absurd (omega (arith, h))
same (x ∷ xs) (y ∷ ys) a b e =
    let p = first-least x y xs ys b.0 (e (less y)) in
    let q = first-least y x ys xs a.0 (sym (e (less x))) in
    let first : x ≡ y = le-antisym x y q p in
    let rest : xs ≡ ys = same xs ys a.1 b.1 (λ f. let h = e f in let g : f x ≡ f y = ap f first in omega (arith, h, g)) in
    λ i. first i ∷ rest i

with_entry-at_least : (x z : ℤ) (xs : List ℤ) → int_le x z ≡ true → AtLeast x xs → AtLeast x (with_entry xs z)
with_entry-at_least x z [] p a = (p, tt)
with_entry-at_least x z (y ∷ ys) p a = go (with_entry-at_least x z ys p a.1) (int_le z y)
  where
    go : AtLeast x (with_entry ys z) → (b : Bool) → AtLeast x (if b then z ∷ y ∷ ys else y ∷ with_entry ys z)
    go rest true = (p, a)
    go rest false = (a.0, rest)

with_entry-ascends : (xs : List ℤ) (z : ℤ) → Ascends xs → Ascends (with_entry xs z)
with_entry-ascends [] z a = (tt, tt)
with_entry-ascends (x ∷ xs) z a = go (with_entry-ascends xs z a.1) (int_le z x) refl
  where
    go : Ascends (with_entry xs z) → (b : Bool) → int_le z x ≡ b → Ascends (if b then z ∷ x ∷ xs else x ∷ with_entry xs z)
    go rest true e = ((e, at_least-trans z x xs e a.0), a)
    go rest false e = (with_entry-at_least x z xs (le-flip z x e) a.0, rest)

with_entry-total : (f : ℤ → ℕ) (xs : List ℤ) (z : ℤ) → total f (with_entry xs z) ≡ total f xs + f z
with_entry-total f [] z = omega arith
with_entry-total f (x ∷ xs) z = go (with_entry-total f xs z) (int_le z x)
  where
    go : total f (with_entry xs z) ≡ total f xs + f z → (b : Bool) → total f (if b then z ∷ x ∷ xs else x ∷ with_entry xs z) ≡ (f x + total f xs) + f z
    go rest true = omega arith
    go rest false = omega (arith, rest)

-- the ascending list of the entries of xs and of z
pub with_entry-is : (xs ys : List ℤ) (z : ℤ) → IsSorted int_cmp xs → IsSorted int_cmp ys → IsPermutation (xs ++ z ∷ []) ys → ys ≡ with_entry xs z
with_entry-is xs ys z s t p =
    same ys (with_entry xs z) (ascends ys t) (with_entry-ascends xs z (ascends xs s))
    (λ f. let e = sum_by-IsPermutation f (xs ++ z ∷ []) ys p in
    let g = sum_by-append f xs (z ∷ []) in
    let l = total-sum_by f ys in
    let k = total-sum_by f xs in
    let h = with_entry-total f xs z in
    omega (arith, e, g, l, k, h))

-- the same of what a sort of those entries returns
pub with_entry-sorted : {E : Type 0} (r : Result (List ℤ) E) (all xs : List ℤ) (z : ℤ) → IsSorted int_cmp xs → all ≡ xs ++ z ∷ []
    → IfOk r (λ l. IsSorted int_cmp l) → IfOk r (λ l. IsPermutation all l) → IfOk r (λ l. l ≡ with_entry xs z)
with_entry-sorted (Ok ys) all xs z s e sorted same = with_entry-is xs ys z s sorted (rw e at same)
with_entry-sorted (Err x) all xs z s e sorted same = sorted

with_entry-length : (xs : List ℤ) (z : ℤ) → length (with_entry xs z) ≡ suc (length xs)
with_entry-length [] z = refl
with_entry-length (x ∷ xs) z = go (with_entry-length xs z) (int_le z x)
  where
    go : length (with_entry xs z) ≡ suc (length xs) → (b : Bool) → length (if b then z ∷ x ∷ xs else x ∷ with_entry xs z) ≡ suc (suc (length xs))
    go rest true = refl
    go rest false = ap suc rest

pub with_entry-long : (xs : List ℤ) (z : ℤ) → 1000000 ≤ length xs → bounded_list (with_entry xs z) ≡ Err cause.ListTooLong
with_entry-long xs z h =
    let e = with_entry-length xs z in
    let f : nat_le (length (with_entry xs z)) 1000000 ≡ false = lt-leb (length (with_entry xs z)) 1000000 (omega (arith, e)) in
    rw f refl

pub with_entry-bounded : (xs ys : List ℤ) (z : ℤ) → length xs < 1000000 → ys ≡ with_entry xs z → bounded_list (with_entry xs z) ≡ Ok (value.Ids ys)
with_entry-bounded xs ys z h is =
    let e = with_entry-length xs z in
    let f : nat_le (length (with_entry xs z)) 1000000 ≡ true = le-leb (length (with_entry xs z)) 1000000 (omega (arith, e)) in
    rw (f, is) refl

-- a list without entries has one order
pub no_entries : (xs : List ℤ) → IsPermutation [] xs → xs ≡ []
no_entries xs p = nil_from_length xs (length_permutation [] xs p)

-- a search of an ascending list finds an entry exactly if it is there
pub searched : (xs : List ℤ) (z : ℤ) (r : Result ℕ ℕ) → IsSorted int_cmp xs → IsSearchInRange r (length xs) → IsBinarySearchResult (λ y. int_cmp y z) xs r → is_ok r ≡ has_entry xs z
searched xs z (Ok i) s within found =
    sym (list_any_at (λ x. int_eq x z) xs i z within (ap is_eq (found z)))
searched xs z (Err i) s within found =
    let apart = found (searchable_from_sorted int_cmp_total (λ x. x) xs z s) in
    sym (list_any_none (λ x. int_eq x z) xs (λ k d h. either k d h apart (ltb k i) refl))
  where
    either : (k : ℕ) (d : ℤ) → k < length xs → IsPartitionPoint (λ y. int_cmp y z ≡ Less) (λ y. int_cmp y z ≡ Greater) xs i → (b : Bool) → ltb k i ≡ b → int_eq (get_or xs k d) z ≡ false
    either k d h apart true e = ap is_eq (apart.0 k d (omega arith) (ltb-true k i e))
    either k d h apart false e = ap is_eq (apart.1 k d (ltb-false k i e) h)
