-- Rows by slot under a mask, as a list.
use Rattle.std.proofs.Common.{◌≡◌, ℕ, zero, suc, ◌+◌, ◌-◌, ◌<◌, ◌≤◌, Bool, true, false, cond, List, [], ◌∷◌, Option, Some, None, length, drop, slice_get, refl, sym, ap, ◌∙◌, arith, zero-add, length-drop}
use Rattle.std.specs.List.{AllByRecursion, position_from}
use Rattle.std.specs.List.Sorted.{IsStrictlySortedBy}
use Rattle.std.specs.Map.{keys_of}
use Rattle.std.specs.declared.cmp.Ordering.TheVariants.{Less}
use Rattle.std.proofs.lemmas.Cmp.{eq_by_cmp_equiv}
use Rattle.std.proofs.lemmas.List.{drop-drop}
use Rattle.std.proofs.lemmas.Map.Keys.{IsDistinct-head, IsDistinct-tail}
use Rattle.gx_rows.specs.declared.vid.Vid.{Vid}
use Rattle.gx_index.specs.Ids.{HasDistinctIds, IsAscending, id_cmp, id_cmp-total, is_same_id}
use Rattle.gx_rows.specs.ListLaws.{drop-at}
use Rattle.gx_vpart.specs.Operators.{row_at}
use Rattle.gx_vpart.specs.Slots.{masked_rows}

-- ---- the next slot of a mask

pub next-from : (n s : ℕ) (mask : List Bool) → position_from (λ b. b) n mask ≡ Some s → (n ≤ s) × (s < n + length mask)
next-from n s [] at = cc
next-from n s (true ∷ mask) at = let same : n ≡ s = cc in (omega arith, omega arith)
next-from n s (false ∷ mask) at = let more = next-from (n + 1) s mask at in (omega arith, omega arith)

pub next-within : (from s : ℕ) (mask : List Bool) → position_from (λ b. b) from (drop from mask) ≡ Some s → s < length mask
next-within from s mask at = omega (arith, next-from from s (drop from mask) at, length-drop from mask)

-- the mask has this slot
pub position-here : (mask : List Bool) (from : ℕ) → slice_get mask from ≡ Some true → Some from ≡ position_from (λ b. b) from (drop from mask)
position-here mask from at = sym (ap (position_from (λ b. b) from) (drop-at mask from true at))

-- no slot is left
pub masked_rows-none : {R : Type 0} (n : ℕ) (mask : List Bool) (ids : List Vid) (rows : List R) → position_from (λ b. b) n mask ≡ None → masked_rows mask ids rows ≡ []
masked_rows-none n [] ids rows none = refl
masked_rows-none n (true ∷ mask) ids rows none = cc
masked_rows-none n (false ∷ mask) [] rows none = refl
masked_rows-none n (false ∷ mask) (v ∷ ids) [] none = refl
masked_rows-none n (false ∷ mask) (v ∷ ids) (r ∷ rows) none = masked_rows-none (n + 1) mask ids rows none

next-here : {R : Type 0} (mask : List Bool) (ids : List Vid) (rows : List R) (v : Vid) (r : R) → slice_get ids 0 ≡ Some v → slice_get rows 0 ≡ Some r
    → masked_rows (true ∷ mask) ids rows ≡ (v, r) ∷ masked_rows mask (drop 1 ids) (drop 1 rows)
next-here mask [] rows v r at row = cc
next-here mask (w ∷ ids) [] v r at row = cc
next-here mask (w ∷ ids) (x ∷ rows) v r at row =
    let same : w ≡ v = cc in
    let also : x ≡ r = cc in
    rw (same, also) refl

next-later : {R : Type 0} (n s : ℕ) (mask : List Bool) (ids : List Vid) (rows : List R) (v : Vid) (r : R) (k : ℕ)
    → position_from (λ b. b) n mask ≡ Some s → s ≡ n + k → slice_get ids k ≡ Some v → slice_get rows k ≡ Some r
    → masked_rows mask ids rows ≡ (v, r) ∷ masked_rows (drop (k + 1) mask) (drop (k + 1) ids) (drop (k + 1) rows)
next-later n s [] ids rows v r k at is id row = cc
next-later n s (true ∷ mask) ids rows v r zero at is id row = next-here mask ids rows v r id row
next-later n s (true ∷ mask) ids rows v r (suc k) at is id row = let same : n ≡ s = cc in absurd (omega arith)
next-later n s (false ∷ mask) ids rows v r zero at is id row = absurd (omega (arith, next-from (n + 1) s mask at))
next-later n s (false ∷ mask) [] rows v r (suc k) at is id row = cc
next-later n s (false ∷ mask) (w ∷ ids) [] v r (suc k) at is id row = cc
next-later n s (false ∷ mask) (w ∷ ids) (x ∷ rows) v r (suc k) at is id row =
    let same : suc k + 1 ≡ suc (k + 1) = omega arith in
    rw same (next-later (n + 1) s mask ids rows v r k at (omega arith) id row)

slice_get-drop : {A : Type 0} (n : ℕ) (xs : List A) (k : ℕ) → slice_get (drop n xs) k ≡ slice_get xs (n + k)
slice_get-drop zero xs k = rw zero-add refl
slice_get-drop (suc n) [] k = refl
slice_get-drop (suc n) (x ∷ xs) k = let same : suc n + k ≡ suc (n + k) = omega arith in rw same (slice_get-drop n xs k)

-- the row of the next slot, and those after it
pub masked_rows-next : {R : Type 0} (from s : ℕ) (mask : List Bool) (ids : List Vid) (rows : List R) (v : Vid) (r : R)
    → position_from (λ b. b) from (drop from mask) ≡ Some s → slice_get ids s ≡ Some v → slice_get rows s ≡ Some r
    → masked_rows (drop from mask) (drop from ids) (drop from rows) ≡ (v, r) ∷ masked_rows (drop (s + 1) mask) (drop (s + 1) ids) (drop (s + 1) rows)
masked_rows-next from s mask ids rows v r at id row =
    let bounds = next-from from s (drop from mask) at in
    let k : ℕ = s - from in
    let is : s ≡ from + k = omega arith in
    let after : from + (k + 1) ≡ s + 1 = omega arith in
    let first = next-later from s (drop from mask) (drop from ids) (drop from rows) v r k at is (slice_get-drop from ids k ∙ ap (slice_get ids) (sym is) ∙ id) (slice_get-drop from rows k ∙ ap (slice_get rows) (sym is) ∙ row) in
    rw (drop-drop (k + 1) from mask, drop-drop (k + 1) from ids, drop-drop (k + 1) from rows, after) at first

-- ---- the list

pub length-masked_rows : {R : Type 0} (mask : List Bool) (ids : List Vid) (rows : List R) → length (masked_rows mask ids rows) ≤ length ids
length-masked_rows [] ids rows = omega arith
length-masked_rows (m ∷ mask) [] rows = omega arith
length-masked_rows (m ∷ mask) (v ∷ ids) [] = omega arith
length-masked_rows (true ∷ mask) (v ∷ ids) (r ∷ rows) = omega (arith, length-masked_rows mask ids rows)
length-masked_rows (false ∷ mask) (v ∷ ids) (r ∷ rows) = omega (arith, length-masked_rows mask ids rows)

-- what holds of all identifiers holds of those under the mask
pub all-masked_rows : {R : Type 0} (P : Vid → Type 0) (mask : List Bool) (ids : List Vid) (rows : List R) → AllByRecursion P ids → AllByRecursion P (keys_of (masked_rows mask ids rows))
all-masked_rows P [] ids rows all = tt
all-masked_rows P (m ∷ mask) [] rows all = tt
all-masked_rows P (m ∷ mask) (v ∷ ids) [] all = tt
all-masked_rows P (true ∷ mask) (v ∷ ids) (r ∷ rows) all = (all.0, all-masked_rows P mask ids rows all.1)
all-masked_rows P (false ∷ mask) (v ∷ ids) (r ∷ rows) all = all-masked_rows P mask ids rows all.1

pub IsAscending-masked_rows : {R : Type 0} (mask : List Bool) (ids : List Vid) (rows : List R) → IsAscending ids → IsAscending (keys_of (masked_rows mask ids rows))
unfolding IsStrictlySortedBy
IsAscending-masked_rows [] ids rows up = tt
IsAscending-masked_rows (m ∷ mask) [] rows up = tt
IsAscending-masked_rows (m ∷ mask) (v ∷ ids) [] up = tt
IsAscending-masked_rows (true ∷ mask) (v ∷ ids) (r ∷ rows) up = (all-masked_rows (λ w. id_cmp v w ≡ Less) mask ids rows up.0, IsAscending-masked_rows mask ids rows up.1)
IsAscending-masked_rows (false ∷ mask) (v ∷ ids) (r ∷ rows) up = IsAscending-masked_rows mask ids rows up.1

-- ---- the row of an identifier

row_at-none : {R : Type 0} (v : Vid) (rows : List (Vid × R)) → AllByRecursion (λ w. is_same_id v w ≡ false) (keys_of rows) → row_at v rows ≡ None
row_at-none v [] none = refl
row_at-none v (r ∷ rows) none = rw none.0 (row_at-none v rows none.1)

none-before : (v : Vid) (n : ℕ) (ids : List Vid) → position_from (is_same_id v) n ids ≡ None → AllByRecursion (λ w. is_same_id v w ≡ false) ids
none-before v n [] none = tt
none-before v n (w ∷ ids) none = by (is_same_id v w) refl none (none-before v (n + 1) ids)
  where
    by : (b : Bool) → is_same_id v w ≡ b → cond b (Some n) (position_from (is_same_id v) (n + 1) ids) ≡ None
        → (position_from (is_same_id v) (n + 1) ids ≡ None → AllByRecursion (λ w. is_same_id v w ≡ false) ids)
        → (is_same_id v w ≡ false) × AllByRecursion (λ w. is_same_id v w ≡ false) ids
    by true same none more = cc
    by false apart none more = (apart, more none)

-- an identifier without a slot has no row
pub row_at-no_slot : {R : Type 0} (v : Vid) (mask : List Bool) (ids : List Vid) (rows : List R) → position_from (is_same_id v) 0 ids ≡ None → row_at v (masked_rows mask ids rows) ≡ None
row_at-no_slot v mask ids rows none = row_at-none v (masked_rows mask ids rows) (all-masked_rows (λ w. is_same_id v w ≡ false) mask ids rows (none-before v 0 ids none))

-- the row of a slot, if the mask has the slot
abbrev pub row_under : {R : Type 0} → Option Bool → Option R → Option R
row_under None row = None
row_under (Some true) row = row
row_under (Some false) row = None

slot-from : (v : Vid) (n s : ℕ) (ids : List Vid) → position_from (is_same_id v) n ids ≡ Some s → (n ≤ s) × (s < n + length ids)
slot-from v n s [] at = cc
slot-from v n s (w ∷ ids) at = by (is_same_id v w) at (slot-from v (n + 1) s ids)
  where
    by : (b : Bool) → cond b (Some n) (position_from (is_same_id v) (n + 1) ids) ≡ Some s
        → (position_from (is_same_id v) (n + 1) ids ≡ Some s → (n + 1 ≤ s) × (s < n + 1 + length ids)) → (n ≤ s) × (s < n + length (w ∷ ids))
    by true at more = let same : n ≡ s = cc in (omega arith, omega arith)
    by false at more = let bounds = more at in (omega arith, omega arith)

pub slot_of-within : (v : Vid) (s : ℕ) (ids : List Vid) → position_from (is_same_id v) 0 ids ≡ Some s → s < length ids
slot_of-within v s ids at = omega (arith, slot-from v 0 s ids at)

same-apart : (v w : Vid) (ids : List Vid) → is_same_id v w ≡ true → AllByRecursion (λ y. is_same_id w y ≡ false) ids → AllByRecursion (λ y. is_same_id v y ≡ false) ids
same-apart v w [] same apart = tt
same-apart v w (y ∷ ids) same apart = ((eq_by_cmp_equiv id_cmp-total).congr v w y same ∙ apart.0, same-apart v w ids same apart.1)

row_at-slot : {R : Type 0} (v : Vid) (n k : ℕ) (mask : List Bool) (ids : List Vid) (rows : List R) → HasDistinctIds ids → length mask ≡ length ids → length rows ≡ length ids
    → position_from (is_same_id v) n ids ≡ Some (n + k) → row_at v (masked_rows mask ids rows) ≡ row_under (slice_get mask k) (slice_get rows k)
row_at-slot v n k mask [] rows distinct masks counts at = cc
row_at-slot v n k [] (w ∷ ids) rows distinct masks counts at = absurd (omega arith)
row_at-slot v n k (m ∷ mask) (w ∷ ids) [] distinct masks counts at = absurd (omega arith)
row_at-slot v n k (m ∷ mask) (w ∷ ids) (r ∷ rows) distinct masks counts at =
    by m (is_same_id v w) refl k at (λ j at. row_at-slot v (n + 1) j mask ids rows (IsDistinct-tail is_same_id w ids distinct) (omega arith) (omega arith) at)
  where
    gone : is_same_id v w ≡ true → row_at v (masked_rows mask ids rows) ≡ None
    gone same = row_at-none v (masked_rows mask ids rows) (all-masked_rows (λ y. is_same_id v y ≡ false) mask ids rows (same-apart v w ids same (IsDistinct-head is_same_id w ids distinct)))

    by : (m b : Bool) → is_same_id v w ≡ b → (k : ℕ) → cond b (Some n) (position_from (is_same_id v) (n + 1) ids) ≡ Some (n + k)
        → ((j : ℕ) → position_from (is_same_id v) (n + 1) ids ≡ Some (n + 1 + j) → row_at v (masked_rows mask ids rows) ≡ row_under (slice_get mask j) (slice_get rows j))
        → row_at v (masked_rows (m ∷ mask) (w ∷ ids) (r ∷ rows)) ≡ row_under (slice_get (m ∷ mask) k) (slice_get (r ∷ rows) k)
    by true true same zero at more = rw same refl
    by false true same zero at more = gone same
    by m true same (suc k) at more = let eq : n ≡ n + suc k = cc in absurd (omega arith)
    by m false apart zero at more = let bounds = slot-from v (n + 1) (n + 0) ids at in absurd (omega arith)
    by true false apart (suc k) at more = let eq : n + suc k ≡ n + 1 + k = omega arith in rw apart (more k (rw eq at at))
    by false false apart (suc k) at more = let eq : n + suc k ≡ n + 1 + k = omega arith in more k (rw eq at at)

-- the row of an identifier is that of its slot
pub row_at-masked_rows : {R : Type 0} (v : Vid) (s : ℕ) (mask : List Bool) (ids : List Vid) (rows : List R) → HasDistinctIds ids → length mask ≡ length ids → length rows ≡ length ids
    → position_from (is_same_id v) 0 ids ≡ Some s → row_at v (masked_rows mask ids rows) ≡ row_under (slice_get mask s) (slice_get rows s)
row_at-masked_rows v s mask ids rows distinct masks counts at = row_at-slot v 0 s mask ids rows distinct masks counts (rw zero-add at)
