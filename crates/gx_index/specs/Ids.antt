-- Lists of identifiers.
use Rattle.std.specs.Prelude.{◌≡◌, ℕ, pos, ◌+◌, ◌<◌, Bool, false, List, [], ◌∷◌, Option, Some, IsPermutation, IsSortedByKey, length, map, refl}
use Rattle.std.specs.Cmp.{IsTotalOrder}
use Rattle.std.proofs.Common.{◌∙◌, get_or, arith}
use Rattle.std.specs.List.{IsDistinct, list_any, position_from}
use Rattle.std.specs.List.Sorted.{IsStrictlySortedBy}
use Rattle.std.specs.Ordering.{eq_by_cmp, int_cmp, is_eq, is_lt, ordering_reverse}
use Rattle.std.specs.declared.cmp.Ordering.{Ordering}
use Rattle.std.specs.declared.cmp.Ordering.TheVariants.{Less, Equal, Greater}
use Rattle.std.proofs.lemmas.Cmp.{eq_by_cmp_equiv, int_cmp_total, on_total}
use Rattle.std.proofs.lemmas.List.{get_or-map, length-map}
use Rattle.std.proofs.lemmas.List.Sorted.{IsPermutation-map}
use Rattle.std.proofs.lemmas.Map.Keys.{IsDistinct-IsPermutation, IsDistinct-from_sorted, apart_from_distinct, sorted_from_all_adjacent}
use Rattle.std.proofs.lemmas.Map.Lookups.{exact_signed}
use Rattle.gx_rows.specs.declared.vid.Vid.{Vid}

-- identifiers are ordered as numbers
abbrev pub id_cmp : Vid → Vid → Ordering
id_cmp v w = int_cmp v.0 w.0

abbrev pub is_same_id : Vid → Vid → Bool
is_same_id = eq_by_cmp id_cmp

-- each identifier is less than those after it
abbrev pub IsAscending : List Vid → Type 0
IsAscending ids = IsStrictlySortedBy id_cmp ids

-- no identifier is repeated
abbrev pub HasDistinctIds : List Vid → Type 0
HasDistinctIds ids = IsDistinct is_same_id ids

-- whether the identifier is in the list
abbrev pub has_id : Vid → List Vid → Bool
has_id v ids = list_any (is_same_id v) ids

-- the slot of an identifier: its position in the list, counted from 0
abbrev pub slot_of : Vid → List Vid → Option ℕ
slot_of v ids = position_from (is_same_id v) 0 ids

-- ---- the order is total, and ties are equal

pub id_cmp-total : IsTotalOrder id_cmp
id_cmp-total = on_total (λ v. v.0) int_cmp_total

ascending_nil : IsAscending []
unfolding IsStrictlySortedBy
ascending_nil = tt

pub id_cmp-exact : (v w : Vid) → id_cmp v w ≡ Equal → v ≡ w
id_cmp-exact v w e = λ i. record { 0 = exact_signed v.0 w.0 e i }

-- ascending identifiers are distinct
pub HasDistinctIds-from_ascending : (ids : List Vid) → IsAscending ids → HasDistinctIds ids
HasDistinctIds-from_ascending ids ascending = IsDistinct-from_sorted id_cmp ids ascending

turned-less : (r : Ordering) → is_eq (ordering_reverse r) ≡ false → is_lt r ≡ false → ordering_reverse r ≡ Less
turned-less Less apart not_less = cc
turned-less Equal apart not_less = cc
turned-less Greater apart not_less = refl

less_if_apart : (v w : Vid) → is_same_id v w ≡ false → is_lt (id_cmp w v) ≡ false → id_cmp v w ≡ Less
less_if_apart v w apart not_less =
    let back = id_cmp-total.antisymm v w in
    back ∙ turned-less (id_cmp w v) (rw back at apart) not_less

-- items with distinct identifiers that are sorted by them ascend
pub IsAscending-from_sorted : {X : Type 0} (key : X → Vid) (xs : List X) → HasDistinctIds (map key xs) → IsSortedByKey key id_cmp xs → IsAscending (map key xs)
IsAscending-from_sorted key [] distinct sorted = ascending_nil
IsAscending-from_sorted key (x ∷ xs) distinct sorted =
    sorted_from_all_adjacent id_cmp-total (map key (x ∷ xs)) (key x)
    (λ k within.
    let next : k + 1 < length (x ∷ xs) = rw length-map at within in
    let before : k < length (x ∷ xs) = omega arith in
    let apart = apart_from_distinct is_same_id (map key (x ∷ xs)) k (k + 1) (key x) distinct (omega arith) within in
    rw (get_or-map key (x ∷ xs) k x (key x) before, get_or-map key (x ∷ xs) (k + 1) x (key x) next)
    (less_if_apart (key (get_or (x ∷ xs) k x)) (key (get_or (x ∷ xs) (k + 1) x))
    (rw (get_or-map key (x ∷ xs) k x (key x) before, get_or-map key (x ∷ xs) (k + 1) x (key x) next) at apart)
    (sorted k x (omega arith) next)))

-- distinct identifiers in another order are distinct
pub HasDistinctIds-IsPermutation : {X : Type 0} (key : X → Vid) (xs ys : List X) → IsPermutation xs ys → HasDistinctIds (map key xs) → HasDistinctIds (map key ys)
HasDistinctIds-IsPermutation key xs ys same distinct =
    IsDistinct-IsPermutation is_same_id (eq_by_cmp_equiv id_cmp-total).symm (map key xs) (map key ys) (IsPermutation-map key xs ys same) distinct

-- ---- examples

slot_of-example : slot_of (record { 0 = pos 7 }) (record { 0 = pos 9 } ∷ record { 0 = pos 7 } ∷ []) ≡ Some 1
slot_of-example = refl

has_id-example : has_id (record { 0 = pos 8 }) (record { 0 = pos 9 } ∷ record { 0 = pos 7 } ∷ []) ≡ false
has_id-example = refl
