-- The ends of edges, each with the sides on which it is one.
use Rattle.std.specs.Prelude.{◌≡◌, ℕ, pos, ◌<◌, ◌^◌, ◌==◌, Bool, true, false, List, [], ◌∷◌, Option, Some, None, get_or, length, map, slice_index_or, refl}
use Rattle.std.specs.List.{list_any, zip}
use Rattle.std.proofs.Math.ListN.{set}
use Rattle.std.specs.Map.{keys_of, lookup}
use Rattle.gx_rows.specs.declared.sides.Sides.{Sides}
use Rattle.gx_rows.specs.declared.vid.Vid.{Vid}
use Rattle.gx_index.specs.Ids.{IsAscending, is_same_id, has_id}

-- an end: an identifier with its sides
abbrev pub End : Type 0
End = Vid × Sides

-- these sides, if any
abbrev pub sides_if_any : Bool → Bool → Option Sides
sides_if_any true dst = Some (record { src = true; dst = dst })
sides_if_any false true = Some (record { src = false; dst = true })
sides_if_any false false = None

-- the sides on which the identifier is an end of edges, given by source and destination; `None` if
-- it is an end of none
abbrev pub sides_in_edges : Vid → List (Vid × Vid) → Option Sides
sides_in_edges v edges = sides_if_any (list_any (λ e. is_same_id v e.0) edges) (list_any (λ e. is_same_id v e.1) edges)

-- the sides of an identifier in a list of ends; `None` if it is not in the list
abbrev pub sides_of_end : Vid → List End → Option Sides
sides_of_end v ends = lookup (is_same_id v) ends

-- the ends of these edges, ascending
pub record IsEndsOf (edges : List (Vid × Vid)) (ends : List End) : Type 0 where
  pub ascending : IsAscending (keys_of ends)
  pub exact : (v : Vid) → sides_of_end v ends ≡ sides_in_edges v edges

-- the same identifiers, ascending
pub record IsSetOf (ids set : List Vid) : Type 0 where
  pub ascending : IsAscending set
  pub exact : (v : Vid) → has_id v set ≡ has_id v ids

-- ---- ends by slot

-- an ascending list of identifiers, with the sides of each
pub record HasSides (ids : List Vid) (sides : List Sides) : Type 0 where
  pub few : length ids < 2 ^ 32
  pub ascending : IsAscending ids
  pub one_each : length sides ≡ length ids

-- the identifier of a slot
abbrev pub id_of_slot : List Vid → ℕ → Vid
id_of_slot ids n = slice_index_or ids n (record { 0 = pos 0 })

abbrev pub ids_of_slots : List Vid → List ℕ → List Vid
ids_of_slots ids slots = map (id_of_slot ids) slots

-- the edges whose ends have these slots
abbrev pub edges_of_slots : List Vid → List ℕ → List ℕ → List (Vid × Vid)
edges_of_slots ids srcs dsts = zip (ids_of_slots ids srcs) (ids_of_slots ids dsts)

-- whether the slot is in the list
abbrev pub has_slot : ℕ → List ℕ → Bool
has_slot k slots = list_any (λ n. n == k) slots

abbrev pub no_sides : Sides
no_sides = record { src = false; dst = false }

-- on the side of a source is each slot of `srcs`, on that of a destination each of `dsts`
pub record AreSidesBySlot (count : ℕ) (srcs dsts : List ℕ) (sides : List Sides) : Type 0 where
  pub one_each : length sides ≡ count
  pub on_src : (k : ℕ) → k < count → (get_or sides k no_sides).src ≡ has_slot k srcs
  pub on_dst : (k : ℕ) → k < count → (get_or sides k no_sides).dst ≡ has_slot k dsts

-- the sides, with these slots as sources too
abbrev pub with_sources : List Sides → List ℕ → List Sides
with_sources sides [] = sides
with_sources sides (n ∷ slots) = with_sources (set sides n (record { src = true; dst = (get_or sides n no_sides).dst })) slots

-- the sides, with these slots as destinations too
abbrev pub with_destinations : List Sides → List ℕ → List Sides
with_destinations sides [] = sides
with_destinations sides (n ∷ slots) = with_destinations (set sides n (record { src = (get_or sides n no_sides).src; dst = true })) slots

-- ---- examples

edges_of_slots-example : edges_of_slots (record { 0 = pos 7 } ∷ record { 0 = pos 9 } ∷ []) (1 ∷ []) (0 ∷ []) ≡ (record { 0 = pos 9 }, record { 0 = pos 7 }) ∷ []
edges_of_slots-example = refl

-- of an edge from 9 to 7, 9 is the source and not the destination
sides_in_edges-example : sides_in_edges (record { 0 = pos 9 }) ((record { 0 = pos 9 }, record { 0 = pos 7 }) ∷ []) ≡ Some (record { src = true; dst = false })
sides_in_edges-example = refl
