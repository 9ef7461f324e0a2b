-- The numbers of ends.
use Rattle.std.proofs.Common.{◌≡◌, ℕ, suc, ◌+◌, Bool, true, false, cond, ◌||◌, List, [], ◌∷◌, Some, None, All, refl, sym, ap, ◌∙◌, slice_get, arith}
use Rattle.std.specs.Cmp.{Equal-is}
use Rattle.std.specs.List.{AllByRecursion, position_from}
use Rattle.std.proofs.lemmas.Cmp.{eq_by_cmp_equiv}
use Rattle.std.proofs.lemmas.List.Elements.{All-from_recursion}
use Rattle.gx_rows.specs.Order.{Edge}
use Rattle.gx_rows.specs.declared.vid.Vid.{Vid}
use Rattle.gx_index.specs.Ends.{IsSetOf}
use Rattle.gx_index.specs.Ids.{has_id, id_cmp, id_cmp-exact, id_cmp-total, is_same_id, slot_of}
use Rattle.gx_epart.specs.Edges.{sources_and_destinations}
use Rattle.gx_epart.specs.Numbers.{HasKnownEnds}

position-at : (v : Vid) (n : ℕ) (ids : List Vid) (k : ℕ) → position_from (is_same_id v) n ids ≡ Some k → (j : ℕ) × (k ≡ n + j) × (slice_get ids j ≡ Some v)
position-at v n [] k e = cc
position-at v n (w ∷ ids) k e = by (is_same_id v w) refl (position-at v (n + 1) ids k) e
  where
    by : (b : Bool) → is_same_id v w ≡ b
        → (position_from (is_same_id v) (n + 1) ids ≡ Some k → (j : ℕ) × (k ≡ n + 1 + j) × (slice_get ids j ≡ Some v))
        → cond b (Some n) (position_from (is_same_id v) (n + 1) ids) ≡ Some k → (j : ℕ) × (k ≡ n + j) × (slice_get (w ∷ ids) j ≡ Some v)
    by true same after e =
        let first : n ≡ k = cc in
        let number : k ≡ n + 0 = omega (arith, first) in
        (0, number, ap Some (sym (id_cmp-exact v w ((Equal-is (id_cmp v w)).0 same))))
    by false apart after e =
        let later = after e in
        let number : k ≡ n + suc later.0 = omega (arith, later.1) in
        (suc later.0, number, later.2)

-- the identifier of the slot that was found
pub slot_of-Some : (v : Vid) (ids : List Vid) (k : ℕ) → slot_of v ids ≡ Some k → slice_get ids k ≡ Some v
slot_of-Some v ids k e =
    let at = position-at v 0 ids k e in
    let same : k ≡ at.0 = omega (arith, at.1) in
    rw same at.2

position-None : (v : Vid) (n : ℕ) (ids : List Vid) → position_from (is_same_id v) n ids ≡ None → has_id v ids ≡ false
position-None v n [] e = refl
position-None v n (w ∷ ids) e = by (is_same_id v w) (position-None v (n + 1) ids) e
  where
    by : (b : Bool) → (position_from (is_same_id v) (n + 1) ids ≡ None → has_id v ids ≡ false)
        → cond b (Some n) (position_from (is_same_id v) (n + 1) ids) ≡ None → b || has_id v ids ≡ false
    by true after e = cc
    by false after e = after e

-- an identifier of the list has a slot
pub slot_of-None : (v : Vid) (ids : List Vid) → slot_of v ids ≡ None → has_id v ids ≡ true → ⊥
slot_of-None v ids none there = let absent = position-None v 0 ids none in cc

or-true : (b : Bool) → b || true ≡ true
or-true true = refl
or-true false = refl

known_ends : (ids : List Vid) (edges : List Edge) → ((v : Vid) → has_id v (sources_and_destinations edges) ≡ true → has_id v ids ≡ true)
    → AllByRecursion (HasKnownEnds ids) edges
known_ends ids [] there = tt
known_ends ids (e ∷ edges) there =
    let itself = (eq_by_cmp_equiv id_cmp-total).refl in (
      (there e.0 (rw (itself e.0) refl), there e.1 (rw (itself e.1) (or-true (is_same_id e.1 e.0)))),
      known_ends ids edges (λ v known. there v (rw (known, or-true (is_same_id v e.1)) (or-true (is_same_id v e.0)))),
    )

-- the set of all ends has both ends of each edge
pub HasKnownEnds-set : (ids set : List Vid) (edges : List Edge) → ids ≡ sources_and_destinations edges → IsSetOf ids set → All (HasKnownEnds set) edges
HasKnownEnds-set ids set edges all ends =
    All-from_recursion (HasKnownEnds set) edges (known_ends set edges (λ v known. ends.exact v ∙ ap (has_id v) all ∙ known))
