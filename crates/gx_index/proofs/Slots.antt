-- The slots of identifiers.
use Rattle.std.proofs.Common.{◌≡◌, ℕ, zero, suc, ◌+◌, true, false, cond, List, [], ◌∷◌, Some, None, All, length, refl, sym, ap, ◌∙◌, slice_get, arith, zero-add, pos}
use Rattle.std.specs.declared.cmp.Ordering.{Ordering}
use Rattle.std.specs.declared.cmp.Ordering.TheVariants.{Less, Equal, Greater}
use Rattle.std.specs.List.{AllAdjacentBelow, AllByRecursion, position_from}
use Rattle.std.specs.Map.{keys_of, lookup}
use Rattle.std.specs.Ordering.{is_eq, is_le}
use Rattle.std.proofs.lemmas.Cmp.{eq_by_cmp_equiv}
use Rattle.std.proofs.lemmas.List.Elements.{recursion_from_All}
use Rattle.std.proofs.lemmas.Map.Entries.{lookup_from_place}
use Rattle.std.proofs.lemmas.Map.Keys.{apart_from_distinct, sorted_from_all_adjacent}
use Rattle.gx_rows.specs.declared.vid.Vid.{Vid}
use Rattle.gx_index.specs.Ids.{HasDistinctIds, IsAscending, id_cmp, id_cmp-total, is_same_id, slot_of}
use Rattle.gx_index.specs.Slots.{slots_from, slots_of}

keys_of-slots_from : (n : ℕ) (ids : List Vid) → keys_of (slots_from n ids) ≡ ids
keys_of-slots_from n [] = refl
keys_of-slots_from n (v ∷ ids) = ap (λ vs. v ∷ vs) (keys_of-slots_from (n + 1) ids)

pub keys_of-slots_of : (ids : List Vid) → keys_of (slots_of ids) ≡ ids
keys_of-slots_of ids = keys_of-slots_from 0 ids

lookup-slots_from : (v : Vid) (n : ℕ) (ids : List Vid) → lookup (is_same_id v) (slots_from n ids) ≡ position_from (is_same_id v) n ids
lookup-slots_from v n [] = refl
lookup-slots_from v n (w ∷ ids) = ap (cond (is_same_id v w) (Some n)) (lookup-slots_from v (n + 1) ids)

pub lookup-slots_of : (v : Vid) (ids : List Vid) → lookup (is_same_id v) (slots_of ids) ≡ slot_of v ids
lookup-slots_of v ids = lookup-slots_from v 0 ids

slice_get-slots_from : (n : ℕ) (ids : List Vid) (k : ℕ) (v : Vid) → slice_get ids k ≡ Some v → slice_get (slots_from n ids) k ≡ Some (v, n + k)
slice_get-slots_from n [] k v at = cc
slice_get-slots_from n (w ∷ ids) zero v at = let same : n + 0 ≡ n = omega arith in rw same cc
slice_get-slots_from n (w ∷ ids) (suc k) v at = let same : n + suc k ≡ n + 1 + k = omega arith in rw same (slice_get-slots_from (n + 1) ids k v at)

-- the slot of the identifier at an index
pub slot_of-at : (ids : List Vid) (k : ℕ) (v : Vid) → HasDistinctIds ids → slice_get ids k ≡ Some v → slot_of v ids ≡ Some k
slot_of-at ids k v distinct at =
    sym (lookup-slots_of v ids)
    ∙ lookup_from_place (eq_by_cmp_equiv id_cmp-total) (slots_of ids) k v k (rw keys_of-slots_of distinct) (rw zero-add at (slice_get-slots_from 0 ids k v at))

slot-none : (v : Vid) (n : ℕ) (ids : List Vid) → AllByRecursion (λ w. is_same_id v w ≡ false) ids → position_from (is_same_id v) n ids ≡ None
slot-none v n [] none = refl
slot-none v n (w ∷ ids) none = rw none.0 (slot-none v (n + 1) ids none.1)

-- an identifier that is nowhere has no slot
pub slot_of-none : (v : Vid) (ids : List Vid) → All (λ w. is_same_id v w ≡ false) ids → slot_of v ids ≡ None
slot_of-none v ids none = slot-none v 0 ids (recursion_from_All _ ids none)

less_if_apart : (r : Ordering) → is_le r ≡ true → is_eq r ≡ false → r ≡ Less
less_if_apart Less le apart = refl
less_if_apart Equal le apart = cc
less_if_apart Greater le apart = cc

-- distinct identifiers that do not fall ascend
pub IsAscending-from_is_sorted : (ids : List Vid) → HasDistinctIds ids → AllAdjacentBelow (λ v w. is_le (id_cmp v w) ≡ true) ids (length ids) → IsAscending ids
IsAscending-from_is_sorted ids distinct sorted =
    sorted_from_all_adjacent id_cmp-total ids (record { 0 = pos 0 })
    (λ k within. less_if_apart _ (sorted k (record { 0 = pos 0 }) within) (apart_from_distinct is_same_id ids k (k + 1) (record { 0 = pos 0 }) distinct (omega arith) within))
