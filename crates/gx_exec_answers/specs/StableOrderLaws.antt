-- Lists by an order in which items may tie: the one list that keeps the order of those that do.
use Rattle.std.proofs.Common.{
  ◌≡◌,
  zero,
  suc,
  ◌+◌,
  ◌<◌,
  Bool,
  true,
  false,
  cond,
  not,
  ◌&&◌,
  List,
  [],
  ◌∷◌,
  IsPermutation,
  IsSortedBy,
  length,
  refl,
  sym,
  ap,
  ◌∙◌,
  arith,
}
use Rattle.std.specs.Cmp.{IsStrictWeakOrder}
use Rattle.std.specs.List.{AllByRecursion, filter}
use Rattle.std.specs.List.Sorted.{IsStableBy, ties}
use Rattle.std.proofs.lemmas.List.Elements.{All-from_recursion}
use Rattle.std.proofs.lemmas.List.Sorted.{
  IsPermutation-cons,
  IsPermutation-middle,
  IsPermutation-refl,
  IsPermutation-sym,
  IsPermutation-trans,
}
use Rattle.gx_epart.specs.OrderLaws.{Rises, Rises-from_sorted}

module _ {X : Type 0} (lt : X → X → Bool) (order : IsStrictWeakOrder lt) where
  -- the list with one more item, before the first that is not less
  abbrev pub with_item : X → List X → List X
  with_item x [] = x ∷ []
  with_item x (y ∷ ys) = cond (lt y x) (y ∷ with_item x ys) (x ∷ y ∷ ys)

  -- the items in order
  abbrev pub order_of : List X → List X
  order_of [] = []
  order_of (x ∷ xs) = with_item x (order_of xs)

  not_less_itself : (x : X) → lt x x ≡ false
  not_less_itself x = by (lt x x) refl
    where
      by : (b : Bool) → lt x x ≡ b → b ≡ false
      by true e = sym e ∙ order.one_way x x e
      by false e = refl

  -- ---- it has the same items

  IsPermutation-with : (x : X) (ys : List X) → IsPermutation (x ∷ ys) (with_item x ys)
  IsPermutation-with x [] = IsPermutation-refl (x ∷ [])
  IsPermutation-with x (y ∷ ys) = by (lt y x) (IsPermutation-with x ys)
    where
      by : (b : Bool) → IsPermutation (x ∷ ys) (with_item x ys)
          → IsPermutation (x ∷ y ∷ ys) (cond b (y ∷ with_item x ys) (x ∷ y ∷ ys))
      by true more =
          IsPermutation-trans (x ∷ y ∷ ys) (y ∷ x ∷ ys) (y ∷ with_item x ys)
          (IsPermutation-sym (y ∷ x ∷ ys) (x ∷ y ∷ ys) (IsPermutation-middle (y ∷ []) x ys))
          (IsPermutation-cons y (x ∷ ys) (with_item x ys) more)
      by false more = IsPermutation-refl (x ∷ y ∷ ys)

  pub IsPermutation-order_of : (xs : List X) → IsPermutation xs (order_of xs)
  IsPermutation-order_of [] = IsPermutation-refl []
  IsPermutation-order_of (x ∷ xs) =
      IsPermutation-trans (x ∷ xs) (x ∷ order_of xs) (with_item x (order_of xs))
      (IsPermutation-cons x xs (order_of xs) (IsPermutation-order_of xs))
      (IsPermutation-with x (order_of xs))

  -- ---- it is in order

  All-with : (P : X → Type 0) (x : X) (ys : List X) → P x → AllByRecursion P ys
      → AllByRecursion P (with_item x ys)
  All-with P x [] one all = (one, tt)
  All-with P x (y ∷ ys) one all = by (lt y x) (All-with P x ys one all.1)
    where
      by : (b : Bool) → AllByRecursion P (with_item x ys)
          → AllByRecursion P (cond b (y ∷ with_item x ys) (x ∷ y ∷ ys))
      by true more = (all.0, more)
      by false more = (one, all)

  All-not_less : (x y : X) (ys : List X) → lt y x ≡ false → AllByRecursion (λ z. lt z y ≡ false) ys
      → AllByRecursion (λ z. lt z x ≡ false) ys
  All-not_less x y [] first all = tt
  All-not_less x y (z ∷ ys) first all =
      (order.chain z y x all.0 first, All-not_less x y ys first all.1)

  Rises-with : (x : X) (ys : List X) → Rises lt ys → Rises lt (with_item x ys)
  Rises-with x [] rises = (tt, tt)
  Rises-with x (y ∷ ys) rises = by (lt y x) refl (Rises-with x ys rises.1)
    where
      by : (b : Bool) → lt y x ≡ b → Rises lt (with_item x ys)
          → Rises lt (cond b (y ∷ with_item x ys) (x ∷ y ∷ ys))
      by true less more = (
        All-with (λ z. lt z y ≡ false) x ys (order.one_way y x less) rises.0,
        more,
      )
      by false first more = ((first, All-not_less x y ys first rises.0), rises)

  pub Rises-order_of : (xs : List X) → Rises lt (order_of xs)
  Rises-order_of [] = tt
  Rises-order_of (x ∷ xs) = Rises-with x (order_of xs) (Rises-order_of xs)

  sorted_from_rises : (xs : List X) → Rises lt xs → IsSortedBy lt xs
  sorted_from_rises [] rises k d low high = absurd (omega arith)
  sorted_from_rises (x ∷ xs) rises zero d low high =
      let first : 0 < length xs = omega arith in
      All-from_recursion (λ y. lt y x ≡ false) xs rises.0 0 d first
  sorted_from_rises (x ∷ xs) rises (suc k) d low high =
      let next : k + 1 < length xs = omega arith in
      let one : suc k + 1 ≡ suc (k + 1) = omega arith in
      rw one (sorted_from_rises xs rises.1 k d (omega arith) next)

  pub IsSortedBy-order_of : (xs : List X) → IsSortedBy lt (order_of xs)
  IsSortedBy-order_of xs = sorted_from_rises (order_of xs) (Rises-order_of xs)

  -- ---- items that tie keep their order

  abbrev tied_with : X → List X → List X
  tied_with z xs = filter (ties lt z) xs

  -- of two items that do not tie, at most one ties with a third
  not_both : (x y z : X) → lt y x ≡ true → ties lt z x ≡ true → ties lt z y ≡ true → ⊥
  not_both x y z less first second = by (lt z x) (lt y z) refl refl first second
    where
      by : (s t : Bool) → lt z x ≡ s → lt y z ≡ t → not s && not (lt x z) ≡ true
          → not (lt z y) && not t ≡ true → ⊥
      by true t es et first second = cc
      by false false es et first second = let never : lt y x ≡ false = order.chain y z x et es in cc
      by false true es et first second = past (lt z y) second
        where
          past : (b : Bool) → not b && not true ≡ true → ⊥
          past true e = cc
          past false e = cc

  tied-with : (z x : X) (ys : List X) → tied_with z (with_item x ys) ≡ tied_with z (x ∷ ys)
  tied-with z x [] = refl
  tied-with z x (y ∷ ys) = by (lt y x) refl (tied-with z x ys)
    where
      swap : (s t : Bool) → ties lt z x ≡ s → ties lt z y ≡ t → lt y x ≡ true
          → cond t (y ∷ cond s (x ∷ tied_with z ys) (tied_with z ys))
          (cond s (x ∷ tied_with z ys) (tied_with z ys))
          ≡ cond s (x ∷ cond t (y ∷ tied_with z ys) (tied_with z ys))
          (cond t (y ∷ tied_with z ys) (tied_with z ys))
      swap true true first second less = absurd (not_both x y z less first second)
      swap true false first second less = refl
      swap false t first second less = refl

      by : (b : Bool) → lt y x ≡ b → tied_with z (with_item x ys) ≡ tied_with z (x ∷ ys)
          → tied_with z (cond b (y ∷ with_item x ys) (x ∷ y ∷ ys)) ≡ tied_with z (x ∷ y ∷ ys)
      by true less more = ap (λ zs. cond (ties lt z y) (y ∷ zs) zs) more
          ∙ swap (ties lt z x) (ties lt z y) refl refl less
      by false first more = refl

  pub IsStableBy-order_of : (xs : List X) → IsStableBy lt xs (order_of xs)
  IsStableBy-order_of [] z = refl
  IsStableBy-order_of (x ∷ xs) z =
      tied-with z x (order_of xs)
      ∙ ap (λ ys. cond (ties lt z x) (x ∷ ys) ys) (IsStableBy-order_of xs z)

  -- ---- and it is the only one

  ties_itself : (x : X) → ties lt x x ≡ true
  ties_itself x = ap (λ b. not b && not b) (not_less_itself x)

  none_ties : (y : X) (xs : List X) → AllByRecursion (λ z. lt y z ≡ true) xs → tied_with y xs ≡ []
  none_ties y [] all = refl
  none_ties y (x ∷ xs) all =
      ap (λ b. cond (not b && not (lt x y)) (x ∷ tied_with y xs) (tied_with y xs)) all.0
      ∙ none_ties y xs all.1

  less_than : (y x : X) → lt y x ≡ true → (z : X) → lt z x ≡ false → lt y z ≡ true
  less_than y x less z first = by (lt y z) refl
    where
      by : (b : Bool) → lt y z ≡ b → b ≡ true
      by true e = refl
      by false e = let never : lt y x ≡ false = order.chain y z x e first in cc

  All-less_than : (y x : X) (xs : List X) → lt y x ≡ true → AllByRecursion (λ z. lt z x ≡ false) xs
      → AllByRecursion (λ z. lt y z ≡ true) xs
  All-less_than y x [] less all = tt
  All-less_than y x (z ∷ xs) less all =
      (less_than y x less z all.0, All-less_than y x xs less all.1)

  first_ties : (x : X) (xs : List X) → tied_with x (x ∷ xs) ≡ x ∷ tied_with x xs
  first_ties x xs = ap (λ b. cond b (x ∷ tied_with x xs) (tied_with x xs)) (ties_itself x)

  -- an item whose ties are in a list that rises is not less than the first item of the list
  first_not_less : (x y : X) (xs ys : List X) → Rises lt (x ∷ xs)
      → tied_with y (x ∷ xs) ≡ tied_with y (y ∷ ys) → lt y x ≡ false
  first_not_less x y xs ys rises same = by (lt y x) refl
    where
      by : (b : Bool) → lt y x ≡ b → b ≡ false
      by true less =
          let none : tied_with y (x ∷ xs) ≡ [] =
          none_ties y (x ∷ xs) (less, All-less_than y x xs less rises.0) in
          let some : [] ≡ y ∷ tied_with y ys = sym none ∙ same ∙ first_ties y ys in
          cc
      by false e = refl

  rest_same : (b : Bool) (x : X) (xs ys : List X) → cond b (x ∷ xs) xs ≡ cond b (x ∷ ys) ys
      → xs ≡ ys
  rest_same true x xs ys same = cc
  rest_same false x xs ys same = same

  same_if_stable : (xs ys : List X) → Rises lt xs → Rises lt ys
      → ((z : X) → tied_with z xs ≡ tied_with z ys) → xs ≡ ys
  same_if_stable [] [] rises_x rises_y same = refl
  same_if_stable [] (y ∷ ys) rises_x rises_y same = let some : [] ≡ y ∷ tied_with y ys =
      same y ∙ first_ties y ys in cc
  same_if_stable (x ∷ xs) [] rises_x rises_y same = let some : [] ≡ x ∷ tied_with x xs =
      sym (same x) ∙ first_ties x xs in cc
  same_if_stable (x ∷ xs) (y ∷ ys) rises_x rises_y same =
      let left : lt y x ≡ false = first_not_less x y xs ys rises_x (same y) in
      let right : lt x y ≡ false = first_not_less y x ys xs rises_y (sym (same x)) in
      let tie : ties lt x y ≡ true = rw (left, right) refl in
      let firsts : x ∷ tied_with x xs ≡ y ∷ tied_with x ys =
      sym (first_ties x xs) ∙ same x
      ∙ ap (λ b. cond b (y ∷ tied_with x ys) (tied_with x ys)) tie in
      let first : x ≡ y = cc in
      let rest : xs ≡ ys
      = same_if_stable xs ys rises_x.1 rises_y.1
      (λ z. rest_same (ties lt z x) x (tied_with z xs) (tied_with z ys)
      (same z ∙ ap (λ w. cond (ties lt z w) (w ∷ tied_with z ys) (tied_with z ys)) (sym first))) in
      λ i. first i ∷ rest i

  -- a sorted list in which items that tie keep their order
  pub order_of-unique : (xs ys : List X) → IsSortedBy lt ys → IsStableBy lt xs ys → ys ≡ order_of xs
  order_of-unique xs ys sorted stable =
      same_if_stable ys (order_of xs) (Rises-from_sorted lt order ys sorted) (Rises-order_of xs)
      (λ z. stable z ∙ sym (IsStableBy-order_of xs z))
