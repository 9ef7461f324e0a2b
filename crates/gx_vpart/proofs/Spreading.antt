-- Items spread over the slots of a mask.
use Rattle.std.proofs.Common.{◌≡◌, ℕ, zero, suc, ◌+◌, ◌-◌, ◌<◌, ◌≤◌, Bool, true, false, List, [], ◌∷◌, ◌++◌, Some, length, drop, replicate, slice_get, set, refl, sym, ap, ◌∙◌, arith, append_assoc, length-append, ◌^◌, Result, Ok, Err, IfOk}
use Rattle.std.specs.List.{zip}
use Rattle.std.specs.Map.{keys_of, values_of}
use Rattle.std.proofs.lemmas.List.{append-nil, drop_all, length-map, length-replicate}
use Rattle.std.proofs.lemmas.List.Sorted.{length_permutation}
use Rattle.gx_rows.specs.declared.vid.Vid.{Vid}
use Rattle.gx_index.specs.Ids.{HasDistinctIds, HasDistinctIds-IsPermutation, IsAscending, IsAscending-from_sorted}
use Rattle.gx_vpart.specs.Operators.{picked, with_rows}
use Rattle.gx_rows.specs.ListLaws.{drop-at}
use Rattle.gx_vpart.specs.Slots.{AreSortedColumns, HasSlots, IsSpreadUpTo, item_for, items_after, masked_rows, spread_items, thinned_mask}

-- the items of the first slots are made
pub record SpreadSoFar {A : Type 0} (blank : A) (mask : List Bool) (items : List A) (slot : ℕ) (made rest : List A) : Type 0 where
  pub whole : made ++ spread_items blank (drop slot mask) rest ≡ spread_items blank mask items

pub SpreadSoFar-more : {A : Type 0} {blank : A} {mask : List Bool} {items : List A} {slot : ℕ} {made rest : List A} (there : Bool)
    → SpreadSoFar blank mask items slot made rest → slice_get mask slot ≡ Some there
    → SpreadSoFar blank mask items (slot + 1) (made ++ item_for blank there rest ∷ []) (items_after there rest)
SpreadSoFar-more {mask = mask} {slot = slot} there so_far at = record { whole = rw append_assoc (rw (drop-at mask slot there at) at so_far.whole) }

pub SpreadSoFar-done : {A : Type 0} {blank : A} {mask : List Bool} {items : List A} {slot : ℕ} {made rest : List A}
    → SpreadSoFar blank mask items slot made rest → length mask ≤ slot → made ≡ spread_items blank mask items
SpreadSoFar-done {mask = mask} {slot = slot} so_far past = rw (drop_all slot mask past, append-nil) at so_far.whole

-- ---- rows that are made one after another

pub IsSpreadUpTo-start : {A : Type 0} (blank : A) (mask : List Bool) → IsSpreadUpTo {A = A} blank mask [] 0 []
IsSpreadUpTo-start blank mask = record { whole = λ more. refl }

-- after a slot that the mask has not
pub IsSpreadUpTo-blank : {A : Type 0} {blank : A} {mask : List Bool} {items : List A} {slot : ℕ} {made : List A}
    → IsSpreadUpTo blank mask items slot made → slice_get mask slot ≡ Some false → IsSpreadUpTo blank mask items (slot + 1) (made ++ blank ∷ [])
IsSpreadUpTo-blank {mask = mask} {slot = slot} so_far at = record { whole = λ more. rw append_assoc (rw (drop-at mask slot false at) at (so_far.whole more)) }

-- after a slot that the mask has
pub IsSpreadUpTo-item : {A : Type 0} {blank : A} {mask : List Bool} {items : List A} {slot : ℕ} {made : List A} (x : A)
    → IsSpreadUpTo blank mask items slot made → slice_get mask slot ≡ Some true → IsSpreadUpTo blank mask (items ++ x ∷ []) (slot + 1) (made ++ x ∷ [])
IsSpreadUpTo-item {mask = mask} {slot = slot} x so_far at = record { whole = λ more. rw (append_assoc, append_assoc) (rw (drop-at mask slot true at) at (so_far.whole (x ∷ more))) }

-- no slot is left for one more item
pub IsSpreadUpTo-past : {A : Type 0} {blank : A} {mask : List Bool} {items : List A} {slot : ℕ} {made : List A} (x : A)
    → IsSpreadUpTo blank mask items slot made → length mask ≤ slot → IsSpreadUpTo blank mask (items ++ x ∷ []) slot made
IsSpreadUpTo-past {mask = mask} {slot = slot} x so_far past = record { whole = λ more. rw (drop_all slot mask past, append_assoc) (rw (drop_all slot mask past) at (so_far.whole (x ∷ more))) }

-- the slots that are left are blank
pub IsSpreadUpTo-rest : {A : Type 0} {blank : A} {mask : List Bool} {items : List A} {slot : ℕ} {made : List A}
    → IsSpreadUpTo blank mask items slot made → SpreadSoFar blank mask items slot made []
IsSpreadUpTo-rest so_far = record { whole = rw append-nil at (so_far.whole []) }

pub SpreadSoFar-blank : {A : Type 0} {blank : A} {mask : List Bool} {items : List A} {slot : ℕ} {made : List A} (there : Bool)
    → SpreadSoFar blank mask items slot made [] → slice_get mask slot ≡ Some there → SpreadSoFar blank mask items (slot + 1) (made ++ blank ∷ []) []
SpreadSoFar-blank true so_far at = SpreadSoFar-more true so_far at
SpreadSoFar-blank false so_far at = SpreadSoFar-more false so_far at

-- the bools of the first slots are made, and the others are false
pub record ThinnedSoFar (mask bools : List Bool) (slot : ℕ) (thinned rest : List Bool) : Type 0 where
  pub made : List Bool
  pub many : length made ≡ slot
  pub is : thinned ≡ made ++ replicate (length mask - slot) false
  pub so_far : SpreadSoFar false mask bools slot made rest

slice_get-seam : {A : Type 0} (xs : List A) (y : A) (ys : List A) → slice_get (xs ++ y ∷ ys) (length xs) ≡ Some y
slice_get-seam [] y ys = refl
slice_get-seam (x ∷ xs) y ys = slice_get-seam xs y ys

set-seam : {A : Type 0} (xs : List A) (y z : A) (ys : List A) → set (xs ++ y ∷ ys) (length xs) z ≡ xs ++ z ∷ ys
set-seam [] y z ys = refl
set-seam (x ∷ xs) y z ys = ap (λ zs. x ∷ zs) (set-seam xs y z ys)

pub ThinnedSoFar-next : {mask bools : List Bool} {slot : ℕ} {thinned rest : List Bool} → ThinnedSoFar mask bools slot thinned rest → slot < length mask → slice_get thinned slot ≡ Some false
ThinnedSoFar-next {mask = mask} {slot = slot} so_far within =
    let more : length mask - slot ≡ suc (length mask - (slot + 1)) = omega arith in
    rw (so_far.is, more, ← so_far.many) (slice_get-seam so_far.made false _)

pub ThinnedSoFar-more : {mask bools : List Bool} {slot : ℕ} {thinned rest : List Bool} (there : Bool)
    → ThinnedSoFar mask bools slot thinned rest → slice_get mask slot ≡ Some there → slot < length mask
    → ThinnedSoFar mask bools (slot + 1) (set thinned slot (item_for false there rest)) (items_after there rest)
ThinnedSoFar-more {mask = mask} {slot = slot} {rest = rest} there so_far at within =
    let more : length mask - slot ≡ suc (length mask - (slot + 1)) = omega arith in
    record {
      made = so_far.made ++ item_for false there rest ∷ [];
      many = omega (arith, so_far.many, length-append so_far.made (item_for false there rest ∷ []));
      is = rw (so_far.is, more, append_assoc) (ap (λ n. set (so_far.made ++ false ∷ replicate (length mask - (slot + 1)) false) n (item_for false there rest)) (sym so_far.many) ∙ set-seam so_far.made false (item_for false there rest) _);
      so_far = SpreadSoFar-more there so_far.so_far at;
    }

pub ThinnedSoFar-done : {mask bools : List Bool} {slot : ℕ} {thinned rest : List Bool} → ThinnedSoFar mask bools slot thinned rest → length mask ≤ slot → thinned ≡ thinned_mask mask bools
ThinnedSoFar-done {mask = mask} {slot = slot} so_far past =
    let none : length mask - slot ≡ 0 = omega arith in
    rw (so_far.is, none, append-nil) (SpreadSoFar-done so_far.so_far past)

-- ---- what partitions with another mask or with other rows are seen as

pub masked_rows-thinned : {R : Type 0} (mask bools : List Bool) (ids : List Vid) (rows : List R) → masked_rows (thinned_mask mask bools) ids rows ≡ picked (masked_rows mask ids rows) bools
masked_rows-thinned [] bools ids rows = refl
masked_rows-thinned (m ∷ mask) bools [] rows = refl
masked_rows-thinned (m ∷ mask) bools (v ∷ ids) [] = refl
masked_rows-thinned (false ∷ mask) bools (v ∷ ids) (r ∷ rows) = masked_rows-thinned mask bools ids rows
masked_rows-thinned (true ∷ mask) [] (v ∷ ids) (r ∷ rows) = masked_rows-thinned mask [] ids rows ∙ none (masked_rows mask ids rows)
  where
    none : {A : Type 0} (xs : List A) → picked xs [] ≡ []
    none [] = refl
    none (x ∷ xs) = refl
masked_rows-thinned (true ∷ mask) (true ∷ bools) (v ∷ ids) (r ∷ rows) = ap (λ rs. (v, r) ∷ rs) (masked_rows-thinned mask bools ids rows)
masked_rows-thinned (true ∷ mask) (false ∷ bools) (v ∷ ids) (r ∷ rows) = masked_rows-thinned mask bools ids rows

pub masked_rows-spread : {R S : Type 0} (blank : S) (mask : List Bool) (ids : List Vid) (rows : List R) (items : List S) → length mask ≡ length ids → length rows ≡ length ids
    → length items ≡ length (masked_rows mask ids rows) → masked_rows mask ids (spread_items blank mask items) ≡ with_rows (masked_rows mask ids rows) items
masked_rows-spread blank [] [] [] items masks counts all = refl
masked_rows-spread blank [] (v ∷ ids) rows items masks counts all = absurd (omega arith)
masked_rows-spread blank [] [] (r ∷ rows) items masks counts all = absurd (omega arith)
masked_rows-spread blank (m ∷ mask) [] rows items masks counts all = absurd (omega arith)
masked_rows-spread blank (m ∷ mask) (v ∷ ids) [] items masks counts all = absurd (omega arith)
masked_rows-spread blank (false ∷ mask) (v ∷ ids) (r ∷ rows) items masks counts all = masked_rows-spread blank mask ids rows items (omega arith) (omega arith) all
masked_rows-spread blank (true ∷ mask) (v ∷ ids) (r ∷ rows) [] masks counts all = absurd (omega arith)
masked_rows-spread blank (true ∷ mask) (v ∷ ids) (r ∷ rows) (s ∷ items) masks counts all =
    ap (λ rs. (v, s) ∷ rs) (masked_rows-spread blank mask ids rows items (omega arith) (omega arith) (omega arith))

pub length-spread_items : {A : Type 0} (blank : A) (mask : List Bool) (items : List A) → length (spread_items blank mask items) ≡ length mask
length-spread_items blank [] items = refl
length-spread_items blank (m ∷ mask) items = ap suc (length-spread_items blank mask (items_after m items))

pub set-same : {A : Type 0} (xs : List A) (i : ℕ) (x : A) → slice_get xs i ≡ Some x → set xs i x ≡ xs
set-same [] i x at = refl
set-same (y ∷ xs) zero x at = let same : y ≡ x = cc in rw same refl
set-same (y ∷ xs) (suc i) x at = ap (λ ys. y ∷ ys) (set-same xs i x at)

-- ---- slots

pub length-columns : {R : Type 0} {vertices : List (Vid × R)} {ids : List Vid} {rows : List R} → AreSortedColumns vertices ids rows → length ids ≡ length vertices
length-columns {vertices = vertices} c = rw (c.ids_are, length-map, length_permutation vertices c.sorted c.same) refl

pub HasDistinctIds-columns : {R : Type 0} {vertices : List (Vid × R)} {ids : List Vid} {rows : List R} → AreSortedColumns vertices ids rows → HasDistinctIds (keys_of vertices) → HasDistinctIds ids
HasDistinctIds-columns {vertices = vertices} c distinct = rw c.ids_are (HasDistinctIds-IsPermutation (λ e. e.0) vertices c.sorted c.same distinct)

pub IsAscending-columns : {R : Type 0} {vertices : List (Vid × R)} {ids : List Vid} {rows : List R} → AreSortedColumns vertices ids rows → HasDistinctIds (keys_of vertices) → IsAscending ids
IsAscending-columns c distinct = rw c.ids_are (IsAscending-from_sorted (λ e. e.0) c.sorted (rw c.ids_are at (HasDistinctIds-columns c distinct)) c.order)

pub one_row_each-columns : {R : Type 0} {vertices : List (Vid × R)} {ids : List Vid} {rows : List R} → AreSortedColumns vertices ids rows → length rows ≡ length ids
one_row_each-columns c = rw (c.rows_are, c.ids_are, length-map, length-map) refl

pub zip-columns : {R : Type 0} {vertices : List (Vid × R)} {ids : List Vid} {rows : List R} (c : AreSortedColumns vertices ids rows) → zip ids rows ≡ c.sorted
zip-columns c = rw (c.ids_are, c.rows_are) (both c.sorted)
  where
    both : {R : Type 0} (vertices : List (Vid × R)) → zip (keys_of vertices) (values_of vertices) ≡ vertices
    both [] = refl
    both (v ∷ vertices) = ap (λ vs. v ∷ vs) (both vertices)

pub keys_of-zip : {R : Type 0} (ids : List Vid) (rows : List R) → length rows ≡ length ids → keys_of (zip ids rows) ≡ ids
keys_of-zip [] rows many = refl
keys_of-zip (v ∷ ids) [] many = absurd (omega arith)
keys_of-zip (v ∷ ids) (r ∷ rows) many = ap (λ vs. v ∷ vs) (keys_of-zip ids rows (omega arith))

-- a full mask has each slot
pub masked_rows-full : {R : Type 0} (n : ℕ) (ids : List Vid) (rows : List R) → n ≡ length ids → length rows ≡ length ids → masked_rows (replicate n true) ids rows ≡ zip ids rows
masked_rows-full zero [] rows many each = refl
masked_rows-full zero (v ∷ ids) rows many each = absurd (omega arith)
masked_rows-full (suc n) [] rows many each = absurd (omega arith)
masked_rows-full (suc n) (v ∷ ids) [] many each = absurd (omega arith)
masked_rows-full (suc n) (v ∷ ids) (r ∷ rows) many each = ap (λ vs. (v, r) ∷ vs) (masked_rows-full n ids rows (omega arith) (omega arith))

pub HasSlots-full : {R : Type 0} (n : ℕ) (ids : List Vid) (rows : List R) → n ≡ length ids → length ids < 2 ^ 32 → IsAscending ids → length rows ≡ length ids → HasSlots (replicate n true) ids rows
HasSlots-full n ids rows many few ascending each = record { few = few; ascending = ascending; one_row_each = each; one_bool_each = rw (length-replicate, many) refl }

pub HasSlots-thinned : {R : Type 0} {mask : List Bool} {ids : List Vid} {rows : List R} (bools : List Bool) → HasSlots mask ids rows → HasSlots (thinned_mask mask bools) ids rows
HasSlots-thinned {mask = mask} bools slots = record {
  few = slots.few;
  ascending = slots.ascending;
  one_row_each = slots.one_row_each;
  one_bool_each = rw length-spread_items slots.one_bool_each;
}

pub HasSlots-spread : {R S : Type 0} {mask : List Bool} {ids : List Vid} {rows : List R} (blank : S) (items : List S) → HasSlots mask ids rows → HasSlots mask ids (spread_items blank mask items)
HasSlots-spread {mask = mask} blank items slots = record {
  few = slots.few;
  ascending = slots.ascending;
  one_row_each = rw length-spread_items slots.one_bool_each;
  one_bool_each = slots.one_bool_each;
}

pub IfOk-both : {A E : Type 0} (P Q S : A → Type 0) (r : Result A E) → ((x : A) → P x → Q x → S x) → IfOk r P → IfOk r Q → IfOk r S
IfOk-both P Q S (Ok x) follows p q = follows x p q
IfOk-both P Q S (Err e) follows p q = tt
