-- The identifiers of a set.
use Rattle.std.proofs.Common.{◌≡◌, ℕ, zero, suc, ◌+◌, ◌-◌, ◌<◌, ◌≤◌, Bool, true, false, cond, List, [], ◌∷◌, Some, None, length, drop, slice_get, refl, sym, ap, ◌∙◌, arith, zero-add, length-drop}
use Rattle.std.specs.List.{AllByRecursion, count_by, filter, position_from}
use Rattle.std.specs.Prelude.{replicate}
use Rattle.std.specs.List.Sorted.{IsStrictlySortedBy}
use Rattle.std.specs.declared.cmp.Ordering.TheVariants.{Less}
use Rattle.std.proofs.lemmas.Cmp.{eq_by_cmp_equiv}
use Rattle.std.proofs.lemmas.List.{drop-drop}
use Rattle.std.proofs.lemmas.List.Sums.{length-filter}
use Rattle.std.proofs.lemmas.Map.Keys.{IsDistinct-head, IsDistinct-tail}
use Rattle.gx_rows.specs.declared.vid.Vid.{Vid}
use Rattle.gx_index.specs.Ids.{HasDistinctIds, IsAscending, has_id, id_cmp, id_cmp-total, is_same_id}
use Rattle.gx_index.specs.Sets.{masked_ids}

next-from : (n s : ℕ) (mask : List Bool) → position_from (λ b. b) n mask ≡ Some s → (n ≤ s) × (s < n + length mask)
next-from n s [] at = cc
next-from n s (true ∷ mask) at = let same : n ≡ s = cc in (omega arith, omega arith)
next-from n s (false ∷ mask) at = let more = next-from (n + 1) s mask at in (omega arith, omega arith)

pub next-within : (from s : ℕ) (mask : List Bool) → position_from (λ b. b) from (drop from mask) ≡ Some s → s < length mask
next-within from s mask at = omega (arith, next-from from s (drop from mask) at, length-drop from mask)

-- no slot is left
pub masked_ids-none : (n : ℕ) (mask : List Bool) (ids : List Vid) → position_from (λ b. b) n mask ≡ None → masked_ids mask ids ≡ []
masked_ids-none n [] ids none = refl
masked_ids-none n (true ∷ mask) ids none = cc
masked_ids-none n (false ∷ mask) [] none = refl
masked_ids-none n (false ∷ mask) (v ∷ ids) none = masked_ids-none (n + 1) mask ids none

next-here : (mask : List Bool) (ids : List Vid) (v : Vid) → slice_get ids 0 ≡ Some v → masked_ids (true ∷ mask) ids ≡ v ∷ masked_ids mask (drop 1 ids)
next-here mask [] v at = cc
next-here mask (w ∷ ids) v at = let same : w ≡ v = cc in rw same refl

next-later : (n s : ℕ) (mask : List Bool) (ids : List Vid) (v : Vid) (k : ℕ) → position_from (λ b. b) n mask ≡ Some s → s ≡ n + k → slice_get ids k ≡ Some v
    → masked_ids mask ids ≡ v ∷ masked_ids (drop (k + 1) mask) (drop (k + 1) ids)
next-later n s [] ids v k at is id = cc
next-later n s (true ∷ mask) ids v zero at is id = next-here mask ids v id
next-later n s (true ∷ mask) ids v (suc k) at is id = let same : n ≡ s = cc in absurd (omega arith)
next-later n s (false ∷ mask) ids v zero at is id = absurd (omega (arith, next-from (n + 1) s mask at))
next-later n s (false ∷ mask) [] v (suc k) at is id = cc
next-later n s (false ∷ mask) (w ∷ ids) v (suc k) at is id =
    let same : suc k + 1 ≡ suc (k + 1) = omega arith in
    rw same (next-later (n + 1) s mask ids v k at (omega arith) id)

slice_get-drop : {A : Type 0} (n : ℕ) (xs : List A) (k : ℕ) → slice_get (drop n xs) k ≡ slice_get xs (n + k)
slice_get-drop zero xs k = rw zero-add refl
slice_get-drop (suc n) [] k = refl
slice_get-drop (suc n) (x ∷ xs) k = let same : suc n + k ≡ suc (n + k) = omega arith in rw same (slice_get-drop n xs k)

-- the identifier of the next slot, and those after it
pub masked_ids-next : (from s : ℕ) (mask : List Bool) (ids : List Vid) (v : Vid) → position_from (λ b. b) from (drop from mask) ≡ Some s → slice_get ids s ≡ Some v
    → masked_ids (drop from mask) (drop from ids) ≡ v ∷ masked_ids (drop (s + 1) mask) (drop (s + 1) ids)
masked_ids-next from s mask ids v at id =
    let bounds = next-from from s (drop from mask) at in
    let k : ℕ = s - from in
    let is : s ≡ from + k = omega arith in
    let after : from + (k + 1) ≡ s + 1 = omega arith in
    let first = next-later from s (drop from mask) (drop from ids) v k at is (slice_get-drop from ids k ∙ ap (slice_get ids) (sym is) ∙ id) in
    rw (drop-drop (k + 1) from mask, drop-drop (k + 1) from ids, after) at first

-- ---- the list

length-kept : (mask : List Bool) (ids : List Vid) → length mask ≡ length ids → length (filter (λ b. b) mask) ≡ length (masked_ids mask ids)
length-kept [] ids count = refl
length-kept (m ∷ mask) [] count = absurd (omega (arith, count))
length-kept (true ∷ mask) (v ∷ ids) count = ap suc (length-kept mask ids (omega (arith, count)))
length-kept (false ∷ mask) (v ∷ ids) count = length-kept mask ids (omega (arith, count))

pub length-masked_ids : (mask : List Bool) (ids : List Vid) → length mask ≡ length ids → count_by (λ b. b) mask ≡ length (masked_ids mask ids)
length-masked_ids mask ids count = sym (length-filter (λ b. b) mask) ∙ length-kept mask ids count

-- what holds of all identifiers holds of those that the mask has
all-masked_ids : (P : Vid → Type 0) (mask : List Bool) (ids : List Vid) → AllByRecursion P ids → AllByRecursion P (masked_ids mask ids)
all-masked_ids P [] ids all = tt
all-masked_ids P (m ∷ mask) [] all = tt
all-masked_ids P (true ∷ mask) (v ∷ ids) all = (all.0, all-masked_ids P mask ids all.1)
all-masked_ids P (false ∷ mask) (v ∷ ids) all = all-masked_ids P mask ids all.1

pub IsAscending-masked_ids : (mask : List Bool) (ids : List Vid) → IsAscending ids → IsAscending (masked_ids mask ids)
unfolding IsStrictlySortedBy
IsAscending-masked_ids [] ids up = tt
IsAscending-masked_ids (m ∷ mask) [] up = tt
IsAscending-masked_ids (true ∷ mask) (v ∷ ids) up = (all-masked_ids (λ w. id_cmp v w ≡ Less) mask ids up.0, IsAscending-masked_ids mask ids up.1)
IsAscending-masked_ids (false ∷ mask) (v ∷ ids) up = IsAscending-masked_ids mask ids up.1

-- a full mask has all
pub masked_ids-full : (n : ℕ) (ids : List Vid) → n ≡ length ids → masked_ids (replicate n true) ids ≡ ids
masked_ids-full zero [] count = refl
masked_ids-full zero (v ∷ ids) count = absurd (omega (arith, count))
masked_ids-full (suc n) [] count = absurd (omega (arith, count))
masked_ids-full (suc n) (v ∷ ids) count = ap (λ vs. v ∷ vs) (masked_ids-full n ids (omega (arith, count)))

pub masked_ids-all : (n : ℕ) (given : List Vid) (mask : List Bool) (ids : List Vid) → n ≡ length given → mask ≡ replicate n true → ids ≡ given → masked_ids mask ids ≡ given
masked_ids-all n given mask ids count full same = rw (full, same) (masked_ids-full n given count)

-- ---- whether an identifier is in the set

has_id-none : (v : Vid) (ids : List Vid) → AllByRecursion (λ w. is_same_id v w ≡ false) ids → has_id v ids ≡ false
has_id-none v [] none = refl
has_id-none v (w ∷ ids) none = rw none.0 (has_id-none v ids none.1)

none-before : (v : Vid) (n : ℕ) (ids : List Vid) → position_from (is_same_id v) n ids ≡ None → AllByRecursion (λ w. is_same_id v w ≡ false) ids
none-before v n [] none = tt
none-before v n (w ∷ ids) none = by (is_same_id v w) refl none (none-before v (n + 1) ids)
  where
    by : (b : Bool) → is_same_id v w ≡ b → cond b (Some n) (position_from (is_same_id v) (n + 1) ids) ≡ None
        → (position_from (is_same_id v) (n + 1) ids ≡ None → AllByRecursion (λ w. is_same_id v w ≡ false) ids)
        → (is_same_id v w ≡ false) × AllByRecursion (λ w. is_same_id v w ≡ false) ids
    by true same none more = cc
    by false apart none more = (apart, more none)

-- an identifier without a slot is not in the set
pub has_id-no_slot : (v : Vid) (mask : List Bool) (ids : List Vid) → position_from (is_same_id v) 0 ids ≡ None → has_id v (masked_ids mask ids) ≡ false
has_id-no_slot v mask ids none = has_id-none v (masked_ids mask ids) (all-masked_ids (λ w. is_same_id v w ≡ false) mask ids (none-before v 0 ids none))

slot-from : (v : Vid) (n s : ℕ) (ids : List Vid) → position_from (is_same_id v) n ids ≡ Some s → (n ≤ s) × (s < n + length ids)
slot-from v n s [] at = cc
slot-from v n s (w ∷ ids) at = by (is_same_id v w) at (slot-from v (n + 1) s ids)
  where
    by : (b : Bool) → cond b (Some n) (position_from (is_same_id v) (n + 1) ids) ≡ Some s
        → (position_from (is_same_id v) (n + 1) ids ≡ Some s → (n + 1 ≤ s) × (s < n + 1 + length ids)) → (n ≤ s) × (s < n + length (w ∷ ids))
    by true at more = let same : n ≡ s = cc in (omega arith, omega arith)
    by false at more = let bounds = more at in (omega arith, omega arith)

pub slot_of-within : (v : Vid) (s : ℕ) (ids : List Vid) → position_from (is_same_id v) 0 ids ≡ Some s → s < length ids
slot_of-within v s ids at = omega (arith, slot-from v 0 s ids at)

same-apart : (v w : Vid) (ids : List Vid) → is_same_id v w ≡ true → AllByRecursion (λ y. is_same_id w y ≡ false) ids → AllByRecursion (λ y. is_same_id v y ≡ false) ids
same-apart v w [] same apart = tt
same-apart v w (y ∷ ids) same apart = ((eq_by_cmp_equiv id_cmp-total).congr v w y same ∙ apart.0, same-apart v w ids same apart.1)

has_id-slot : (v : Vid) (n k : ℕ) (mask : List Bool) (ids : List Vid) → HasDistinctIds ids → length mask ≡ length ids
    → position_from (is_same_id v) n ids ≡ Some (n + k) → Some (has_id v (masked_ids mask ids)) ≡ slice_get mask k
has_id-slot v n k mask [] distinct count at = cc
has_id-slot v n k [] (w ∷ ids) distinct count at = absurd (omega arith)
has_id-slot v n k (m ∷ mask) (w ∷ ids) distinct count at =
    by m (is_same_id v w) refl k at (λ j at. has_id-slot v (n + 1) j mask ids (IsDistinct-tail is_same_id w ids distinct) (omega arith) at)
  where
    gone : is_same_id v w ≡ true → has_id v (masked_ids mask ids) ≡ false
    gone same = has_id-none v (masked_ids mask ids) (all-masked_ids (λ y. is_same_id v y ≡ false) mask ids (same-apart v w ids same (IsDistinct-head is_same_id w ids distinct)))

    by : (m b : Bool) → is_same_id v w ≡ b → (k : ℕ) → cond b (Some n) (position_from (is_same_id v) (n + 1) ids) ≡ Some (n + k)
        → ((j : ℕ) → position_from (is_same_id v) (n + 1) ids ≡ Some (n + 1 + j) → Some (has_id v (masked_ids mask ids)) ≡ slice_get mask j)
        → Some (has_id v (masked_ids (m ∷ mask) (w ∷ ids))) ≡ slice_get (m ∷ mask) k
    by true true same zero at more = rw same refl
    by false true same zero at more = ap Some (gone same)
    by m true same (suc k) at more = let eq : n ≡ n + suc k = cc in absurd (omega arith)
    by m false apart zero at more = let bounds = slot-from v (n + 1) (n + 0) ids at in absurd (omega arith)
    by true false apart (suc k) at more = let eq : n + suc k ≡ n + 1 + k = omega arith in rw apart (more k (rw eq at at))
    by false false apart (suc k) at more = let eq : n + suc k ≡ n + 1 + k = omega arith in more k (rw eq at at)

-- an identifier with a slot is in the set if the mask has the slot
pub has_id-masked_ids : (v : Vid) (s : ℕ) (mask : List Bool) (ids : List Vid) → HasDistinctIds ids → length mask ≡ length ids → position_from (is_same_id v) 0 ids ≡ Some s
    → Some (has_id v (masked_ids mask ids)) ≡ slice_get mask s
has_id-masked_ids v s mask ids distinct count at = has_id-slot v 0 s mask ids distinct count (rw zero-add at)
