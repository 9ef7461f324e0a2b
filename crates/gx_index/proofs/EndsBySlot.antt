-- The ends of edges whose sources and destinations are given by slot.
use Rattle.std.proofs.Common.{◌≡◌, ℕ, ◌+◌, ◌<◌, ◌^◌, ◌==◌, inl, inr, Bool, true, false, cond, ◌||◌, List, [], ◌∷◌, ◌++◌, Option, Some, None, All, get_or, length, slice_get, refl, sym, ap, ◌∙◌, arith, zero, suc, pos}
use Rattle.std.specs.Cmp.{Equal-is}
use Rattle.std.specs.List.{AllByRecursion, list_any, position_from, zip}
use Rattle.std.specs.Prelude.{replicate}
use Rattle.std.specs.Map.{keys_of, values_of}
use Rattle.std.proofs.Math.ListN.{set}
use Rattle.std.proofs.lemmas.Bool.{cases_eq, eqb-true}
use Rattle.std.proofs.lemmas.Cmp.{eq_by_cmp_equiv}
use Rattle.std.proofs.lemmas.List.{get_or-set_other, get_or-set_same, length-set}
use Rattle.std.proofs.lemmas.List.Elements.{recursion_from_All}
use Rattle.std.proofs.lemmas.List.Folds.{list_any-append, list_any_at}
use Rattle.std.proofs.lemmas.Map.Entries.{lookup_from_place}
use Rattle.std.proofs.lemmas.Map.Made.{keys_of-zip}
use Rattle.std.proofs.lemmas.Option.{get_or_from_slice_get, slice_get-get_or, slice_get_read, slice_get_within}
use Rattle.std.proofs.lemmas.Slice.Zip.{get_or-zip, length-zip}
use Rattle.gx_rows.specs.declared.sides.Sides.{Sides}
use Rattle.gx_rows.specs.declared.vid.Vid.{Vid}
use Rattle.gx_index.specs.Ends.{AreSidesBySlot, End, HasSides, IsEndsOf, IsSetOf, edges_of_slots, has_slot, id_of_slot, ids_of_slots, no_sides, sides_if_any, sides_of_end, with_destinations, with_sources}
use Rattle.gx_index.specs.Ids.{HasDistinctIds, HasDistinctIds-from_ascending, IsAscending, has_id, id_cmp, id_cmp-exact, id_cmp-total, is_same_id, slot_of}
use Rattle.gx_index.proofs.Merging.{sides_if_any-is}
use Rattle.gx_index.proofs.Slots.{slot_of-at}

-- ---- the slot of an identifier

position-at : (v : Vid) (n : ℕ) (ids : List Vid) (k : ℕ) → position_from (is_same_id v) n ids ≡ Some k → (j : ℕ) × (k ≡ n + j) × (slice_get ids j ≡ Some v)
position-at v n [] k e = cc
position-at v n (w ∷ ids) k e = by (is_same_id v w) refl (position-at v (n + 1) ids k) e
  where
    by : (b : Bool) → is_same_id v w ≡ b
        → (position_from (is_same_id v) (n + 1) ids ≡ Some k → (j : ℕ) × (k ≡ n + 1 + j) × (slice_get ids j ≡ Some v))
        → cond b (Some n) (position_from (is_same_id v) (n + 1) ids) ≡ Some k → (j : ℕ) × (k ≡ n + j) × (slice_get (w ∷ ids) j ≡ Some v)
    by true same after e =
        let first : n ≡ k = cc in
        let number : k ≡ n + 0 = omega (arith, first) in
        (0, number, ap Some (sym (id_cmp-exact v w ((Equal-is (id_cmp v w)).0 same))))
    by false apart after e =
        let later = after e in
        let number : k ≡ n + suc later.0 = omega (arith, later.1) in
        (suc later.0, number, later.2)

-- the identifier of the slot that was found
pub slot_of-Some : (v : Vid) (ids : List Vid) (k : ℕ) → slot_of v ids ≡ Some k → slice_get ids k ≡ Some v
slot_of-Some v ids k e =
    let at = position-at v 0 ids k e in
    let same : k ≡ at.0 = omega (arith, at.1) in
    rw same at.2

-- ---- the sides of an identifier

pub sides-found : (v : Vid) (k : ℕ) (ids : List Vid) (sides : List Sides) (s : Sides) → HasSides ids sides → slot_of v ids ≡ Some k → s ≡ get_or sides k s
    → Some s ≡ sides_of_end v (zip ids sides)
sides-found v k ids sides s has at is =
    let id = slot_of-Some v ids k at in
    let within : k < length ids = slice_get_within ids k v id in
    let beside : k < length sides = omega (arith, within, has.one_each) in
    let entry : get_or (zip ids sides) k (v, s) ≡ (v, s) =
    get_or-zip ids sides k (v, s) within beside ∙ (λ i. (get_or_from_slice_get ids k v v id i, sym is i)) in
    let room : k < length (zip ids sides) = omega (arith, length-zip ids sides, within, beside) in
    sym (lookup_from_place (eq_by_cmp_equiv id_cmp-total) (zip ids sides) k v s
    (rw (keys_of-zip ids sides has.one_each) (HasDistinctIds-from_ascending ids has.ascending))
    (slice_get_read (zip ids sides) (length (zip ids sides)) k (v, s) refl room (sym entry)))

pub sides-none : (v : Vid) (n : ℕ) (ids : List Vid) (sides : List Sides) → position_from (is_same_id v) n ids ≡ None → sides_of_end v (zip ids sides) ≡ None
sides-none v n [] sides none = refl
sides-none v n (w ∷ ids) [] none = refl
sides-none v n (w ∷ ids) (s ∷ sides) none = by (is_same_id v w) (sides-none v (n + 1) ids sides) none
  where
    by : (b : Bool) → (position_from (is_same_id v) (n + 1) ids ≡ None → sides_of_end v (zip ids sides) ≡ None)
        → cond b (Some n) (position_from (is_same_id v) (n + 1) ids) ≡ None → cond b (Some s) (sides_of_end v (zip ids sides)) ≡ None
    by true rest e = cc
    by false rest e = rest e

-- the end of a slot
pub end-at : (k : ℕ) (ids : List Vid) (sides : List Sides) (v : Vid) (s : Sides) → length sides ≡ length ids → slice_get ids k ≡ Some v → s ≡ get_or sides k s → slice_get (zip ids sides) k ≡ Some (v, s)
end-at k ids sides v s count id is =
    let within : k < length ids = slice_get_within ids k v id in
    let beside : k < length sides = omega (arith, within, count) in
    let room : k < length (zip ids sides) = omega (arith, length-zip ids sides, within, beside) in
    let entry : get_or (zip ids sides) k (v, s) ≡ (v, s) =
    get_or-zip ids sides k (v, s) within beside ∙ (λ i. (get_or_from_slice_get ids k v v id i, sym is i)) in
    slice_get_read (zip ids sides) (length (zip ids sides)) k (v, s) refl room (sym entry)

pub length-ends : (ids : List Vid) (sides : List Sides) → length sides ≡ length ids → length ids ≡ length (zip ids sides)
length-ends ids sides count = omega (arith, length-zip ids sides, count)

-- a list of ends, taken apart and put together
pub zip-columns : (ends : List End) → zip (keys_of ends) (values_of ends) ≡ ends
zip-columns [] = refl
zip-columns (e ∷ ends) = ap (λ es. e ∷ es) (zip-columns ends)

pub zip-list : (ends : List End) (ids : List Vid) (sides : List Sides) → ids ≡ keys_of ends → sides ≡ values_of ends → zip ids sides ≡ ends
zip-list ends ids sides ids_are sides_are = rw (ids_are, sides_are) (zip-columns ends)

-- ---- the marks of slots

pub eqb-itself : (n k : ℕ) → n ≡ k → (n == k) ≡ true
eqb-itself n k same = grind (arith, same)

eqb-apart : (n k : ℕ) → (n ≡ k → ⊥) → (n == k) ≡ false
eqb-apart n k apart = by (n == k) refl
  where
    by : (b : Bool) → (n == k) ≡ b → b ≡ false
    by true e = absurd (apart (eqb-true n k e))
    by false e = refl

or-true : (b : Bool) → b || true ≡ true
or-true true = refl
or-true false = refl

pub length-with_sources : (sides : List Sides) (slots : List ℕ) → length (with_sources sides slots) ≡ length sides
length-with_sources sides [] = refl
length-with_sources sides (n ∷ slots) = length-with_sources (set sides n _) slots ∙ length-set sides n _

pub length-with_destinations : (sides : List Sides) (slots : List ℕ) → length (with_destinations sides slots) ≡ length sides
length-with_destinations sides [] = refl
length-with_destinations sides (n ∷ slots) = length-with_destinations (set sides n _) slots ∙ length-set sides n _

module _ (k : ℕ) where
  src-with_sources : (sides : List Sides) (slots : List ℕ) → k < length sides → (get_or (with_sources sides slots) k no_sides).src ≡ has_slot k slots || (get_or sides k no_sides).src
  src-with_sources sides [] within = refl
  src-with_sources sides (n ∷ slots) within =
      let s : Sides = record { src = true; dst = (get_or sides n no_sides).dst } in
      let rest = src-with_sources (set sides n s) slots (omega (arith, within, length-set sides n s)) in
      elim (cases_eq k n) [
        | inl here ↦
            let mark : get_or (set sides n s) k no_sides ≡ s = rw here (get_or-set_same sides n s no_sides (omega (arith, here, within))) in
            rest ∙ ap (λ x. has_slot k slots || x.src) mark ∙ or-true (has_slot k slots) ∙ sym (ap (λ b. (b || has_slot k slots) || (get_or sides k no_sides).src) (eqb-itself n k (sym here)))
        | inr apart ↦
            rest ∙ ap (λ x. has_slot k slots || x.src) (get_or-set_other sides n k s no_sides apart)
            ∙ sym (ap (λ b. (b || has_slot k slots) || (get_or sides k no_sides).src) (eqb-apart n k (λ e. apart (sym e))))
      ]

  dst-with_sources : (sides : List Sides) (slots : List ℕ) → k < length sides → (get_or (with_sources sides slots) k no_sides).dst ≡ (get_or sides k no_sides).dst
  dst-with_sources sides [] within = refl
  dst-with_sources sides (n ∷ slots) within =
      let s : Sides = record { src = true; dst = (get_or sides n no_sides).dst } in
      let rest = dst-with_sources (set sides n s) slots (omega (arith, within, length-set sides n s)) in
      elim (cases_eq k n) [
        | inl here ↦
            let mark : get_or (set sides n s) k no_sides ≡ s = rw here (get_or-set_same sides n s no_sides (omega (arith, here, within))) in
            rest ∙ ap (λ x. x.dst) mark ∙ ap (λ m. (get_or sides m no_sides).dst) (sym here)
        | inr apart ↦ rest ∙ ap (λ x. x.dst) (get_or-set_other sides n k s no_sides apart)
      ]

  dst-with_destinations : (sides : List Sides) (slots : List ℕ) → k < length sides → (get_or (with_destinations sides slots) k no_sides).dst ≡ has_slot k slots || (get_or sides k no_sides).dst
  dst-with_destinations sides [] within = refl
  dst-with_destinations sides (n ∷ slots) within =
      let s : Sides = record { src = (get_or sides n no_sides).src; dst = true } in
      let rest = dst-with_destinations (set sides n s) slots (omega (arith, within, length-set sides n s)) in
      elim (cases_eq k n) [
        | inl here ↦
            let mark : get_or (set sides n s) k no_sides ≡ s = rw here (get_or-set_same sides n s no_sides (omega (arith, here, within))) in
            rest ∙ ap (λ x. has_slot k slots || x.dst) mark ∙ or-true (has_slot k slots) ∙ sym (ap (λ b. (b || has_slot k slots) || (get_or sides k no_sides).dst) (eqb-itself n k (sym here)))
        | inr apart ↦
            rest ∙ ap (λ x. has_slot k slots || x.dst) (get_or-set_other sides n k s no_sides apart)
            ∙ sym (ap (λ b. (b || has_slot k slots) || (get_or sides k no_sides).dst) (eqb-apart n k (λ e. apart (sym e))))
      ]

  src-with_destinations : (sides : List Sides) (slots : List ℕ) → k < length sides → (get_or (with_destinations sides slots) k no_sides).src ≡ (get_or sides k no_sides).src
  src-with_destinations sides [] within = refl
  src-with_destinations sides (n ∷ slots) within =
      let s : Sides = record { src = (get_or sides n no_sides).src; dst = true } in
      let rest = src-with_destinations (set sides n s) slots (omega (arith, within, length-set sides n s)) in
      elim (cases_eq k n) [
        | inl here ↦
            let mark : get_or (set sides n s) k no_sides ≡ s = rw here (get_or-set_same sides n s no_sides (omega (arith, here, within))) in
            rest ∙ ap (λ x. x.src) mark ∙ ap (λ m. (get_or sides m no_sides).src) (sym here)
        | inr apart ↦ rest ∙ ap (λ x. x.src) (get_or-set_other sides n k s no_sides apart)
      ]

or-false : (b : Bool) → b || false ≡ b
or-false true = refl
or-false false = refl

get_or-none : (n k : ℕ) → get_or (replicate n no_sides) k no_sides ≡ no_sides
get_or-none zero k = refl
get_or-none (suc n) zero = refl
get_or-none (suc n) (suc k) = get_or-none n k

pub AreSidesBySlot-marked : (n : ℕ) (srcs dsts : List ℕ) (none : List Sides) → length none ≡ n → none ≡ replicate n no_sides → AreSidesBySlot n srcs dsts (with_destinations (with_sources none srcs) dsts)
AreSidesBySlot-marked n srcs dsts none count are =
    let marked = with_sources none srcs in
    let kept : length marked ≡ n = length-with_sources none srcs ∙ count in record {
      one_each = length-with_destinations marked dsts ∙ kept;
      on_src = λ k within.
          src-with_destinations k marked dsts (omega (arith, within, kept))
          ∙ src-with_sources k none srcs (omega (arith, within, count))
          ∙ ap (λ s. has_slot k srcs || s.src) (ap (λ xs. get_or xs k no_sides) are ∙ get_or-none n k)
          ∙ or-false (has_slot k srcs);
      on_dst = λ k within.
          dst-with_destinations k marked dsts (omega (arith, within, kept))
          ∙ ap (λ s. has_slot k dsts || s) (dst-with_sources k none srcs (omega (arith, within, count)))
          ∙ ap (λ s. has_slot k dsts || s.dst) (ap (λ xs. get_or xs k no_sides) are ∙ get_or-none n k)
          ∙ or-false (has_slot k dsts);
    }

-- ---- identifiers of slots

module _ (v : Vid) (ids : List Vid) (distinct : HasDistinctIds ids) where
  -- the identifier of a slot has that slot
  same-slot : (n : ℕ) → n < length ids → is_same_id v (id_of_slot ids n) ≡ true → slot_of v ids ≡ Some n
  same-slot n within same =
      let here = slice_get-get_or ids n (record { 0 = pos 0 }) within in
      let is : v ≡ id_of_slot ids n = id_cmp-exact v (id_of_slot ids n) ((Equal-is (id_cmp v (id_of_slot ids n))).0 same) in
      slot_of-at ids n v distinct (here ∙ ap Some (sym is))

  found : (k : ℕ) (slots : List ℕ) → slot_of v ids ≡ Some k → AllByRecursion (λ n. n < length ids) slots → has_id v (ids_of_slots ids slots) ≡ has_slot k slots
  found k [] at all = refl
  found k (n ∷ slots) at all = (λ i. first i || found k slots at all.1 i)
    where
      by : (b : Bool) → is_same_id v (id_of_slot ids n) ≡ b → is_same_id v (id_of_slot ids n) ≡ (n == k)
      by true same =
          let twice = sym (same-slot n all.0 same) ∙ at in
          let number : n ≡ k = cc in
          same ∙ sym (eqb-itself n k number)
      by false apart =
          apart
          ∙ sym (eqb-apart n k (λ number.
          let here = slot_of-Some v ids k at in
          let is : id_of_slot ids n ≡ v = ap (id_of_slot ids) number ∙ get_or_from_slice_get ids k v (record { 0 = pos 0 }) here in
          let itself : is_same_id v (id_of_slot ids n) ≡ true = ap (is_same_id v) is ∙ (eq_by_cmp_equiv id_cmp-total).refl v in
          cc))

      first : is_same_id v (id_of_slot ids n) ≡ (n == k)
      first = by (is_same_id v (id_of_slot ids n)) refl

  absent : (slots : List ℕ) → slot_of v ids ≡ None → AllByRecursion (λ n. n < length ids) slots → has_id v (ids_of_slots ids slots) ≡ false
  absent [] none all = refl
  absent (n ∷ slots) none all = (λ i. first i || absent slots none all.1 i)
    where
      by : (b : Bool) → is_same_id v (id_of_slot ids n) ≡ b → b ≡ false
      by true same = let twice = sym (same-slot n all.0 same) ∙ none in cc
      by false apart = refl

      first : is_same_id v (id_of_slot ids n) ≡ false
      first = by (is_same_id v (id_of_slot ids n)) refl

any-first : (v : Vid) (xs ys : List Vid) → length xs ≡ length ys → list_any (λ e. is_same_id v e.0) (zip xs ys) ≡ has_id v xs
any-first v [] ys count = refl
any-first v (x ∷ xs) [] count = absurd (omega (arith, count))
any-first v (x ∷ xs) (y ∷ ys) count = ap (λ b. is_same_id v x || b) (any-first v xs ys (omega (arith, count)))

any-second : (v : Vid) (xs ys : List Vid) → length xs ≡ length ys → list_any (λ e. is_same_id v e.1) (zip xs ys) ≡ has_id v ys
any-second v [] [] count = refl
any-second v [] (y ∷ ys) count = absurd (omega (arith, count))
any-second v (x ∷ xs) [] count = absurd (omega (arith, count))
any-second v (x ∷ xs) (y ∷ ys) count = ap (λ b. is_same_id v y || b) (any-second v xs ys (omega (arith, count)))

length-ids : (ids : List Vid) (slots : List ℕ) → length (ids_of_slots ids slots) ≡ length slots
length-ids ids [] = refl
length-ids ids (n ∷ slots) = ap suc (length-ids ids slots)

-- ---- the ends

pub HasSides-slots : (ids : List Vid) (sides : List Sides) (srcs dsts : List ℕ) → length ids < 2 ^ 32 → IsAscending ids → AreSidesBySlot (length ids) srcs dsts sides → HasSides ids sides
HasSides-slots ids sides srcs dsts few ascending are = record {
  few = few;
  ascending = ascending;
  one_each = are.one_each;
}

module _ (ids : List Vid) (sides : List Sides) (srcs dsts : List ℕ) (has : HasSides ids sides) (are : AreSidesBySlot (length ids) srcs dsts sides) (even : length srcs ≡ length dsts)
    (in_srcs : All (λ n. n < length ids) srcs) (in_dsts : All (λ n. n < length ids) dsts) (set_is : IsSetOf (ids_of_slots ids srcs ++ ids_of_slots ids dsts) ids) where
  distinct : HasDistinctIds ids
  distinct = HasDistinctIds-from_ascending ids has.ascending

  side_is : (v : Vid) → sides_of_end v (zip ids sides) ≡ sides_if_any (has_id v (ids_of_slots ids srcs)) (has_id v (ids_of_slots ids dsts))
  side_is v = by (slot_of v ids) refl
    where
      by : (r : Option ℕ) → slot_of v ids ≡ r → sides_of_end v (zip ids sides) ≡ sides_if_any (has_id v (ids_of_slots ids srcs)) (has_id v (ids_of_slots ids dsts))
      by None none =
          sides-none v 0 ids sides none
          ∙ sym (λ i. sides_if_any (absent v ids distinct srcs none (recursion_from_All (λ n. n < length ids) srcs in_srcs) i) (absent v ids distinct dsts none (recursion_from_All (λ n. n < length ids) dsts in_dsts) i))
      by (Some k) at =
          let here = slot_of-Some v ids k at in
          let within : k < length ids = slice_get_within ids k v here in
          let s : Sides = get_or sides k no_sides in
          let on_src : has_id v (ids_of_slots ids srcs) ≡ s.src = found v ids distinct k srcs at (recursion_from_All (λ n. n < length ids) srcs in_srcs) ∙ sym (are.on_src k within) in
          let on_dst : has_id v (ids_of_slots ids dsts) ≡ s.dst = found v ids distinct k dsts at (recursion_from_All (λ n. n < length ids) dsts in_dsts) ∙ sym (are.on_dst k within) in
          let there : has_id v ids ≡ true = list_any_at (is_same_id v) ids k v within (ap (is_same_id v) (get_or_from_slice_get ids k v v here) ∙ (eq_by_cmp_equiv id_cmp-total).refl v) in
          let some : s.src || s.dst ≡ true
          = (λ i. sym on_src i || sym on_dst i) ∙ sym (list_any-append (is_same_id v) (ids_of_slots ids srcs) (ids_of_slots ids dsts)) ∙ sym (set_is.exact v) ∙ there in
          let beside : k < length sides = omega (arith, within, has.one_each) in
          let at_k : s ≡ get_or sides k s = sym (get_or_from_slice_get sides k s s (slice_get-get_or sides k no_sides beside)) in
          sym (sides-found v k ids sides s has at at_k)
          ∙ sides_if_any-is s some
          ∙ (λ i. sides_if_any (sym on_src i) (sym on_dst i))

  pub IsEndsOf-slots : IsEndsOf (edges_of_slots ids srcs dsts) (zip ids sides)
  IsEndsOf-slots =
      let count : length (ids_of_slots ids srcs) ≡ length (ids_of_slots ids dsts) = length-ids ids srcs ∙ even ∙ sym (length-ids ids dsts) in record {
        ascending = rw (keys_of-zip ids sides has.one_each) has.ascending;
        exact = λ v.
            side_is v
            ∙ sym (λ i. sides_if_any (any-first v (ids_of_slots ids srcs) (ids_of_slots ids dsts) count i) (any-second v (ids_of_slots ids srcs) (ids_of_slots ids dsts) count i));
      }
