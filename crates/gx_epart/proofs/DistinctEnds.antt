-- The set of the ends of edges: their order, their direction and their rows do not matter.
use Rattle.std.proofs.Common.{◌≡◌, ℕ, ◌<◌, Bool, true, false, cond, ◌||◌, List, [], ◌∷◌, ◌++◌, Some, All, IsPermutation, length, map, refl, sym, ap, ◌∙◌, arith}
use Rattle.std.specs.List.{AllByRecursion, list_any}
use Rattle.std.specs.Map.{keys_of}
use Rattle.std.specs.Option.{is_some}
use Rattle.std.proofs.lemmas.List.Elements.{All-from_recursion, recursion_from_All}
use Rattle.std.proofs.lemmas.List.Folds.{list_any-append}
use Rattle.std.proofs.lemmas.List.Sorted.{list_any-IsPermutation}
use Rattle.gx_rows.specs.Order.{Edge}
use Rattle.gx_rows.specs.declared.value.Value.{Value}
use Rattle.gx_rows.specs.declared.vid.Vid.{Vid}
use Rattle.gx_index.specs.Ends.{End, IsEndsOf, IsSetOf, edges_of_slots, ids_of_slots, sides_if_any, sides_of_end}
use Rattle.gx_index.specs.Ids.{has_id, is_same_id}
use Rattle.gx_epart.specs.declared.local_edge.LocalEdge.{LocalEdge}
use Rattle.gx_epart.specs.Edges.{ends_of_edges, reversed_edges, sources_and_destinations}
use Rattle.gx_epart.specs.Numbers.{IsInRange, edges_of_locals, ends_of_numbers, id_of_number, numbers_with_rows}

-- whether the identifier is an end of the edge
abbrev is_end_of : Vid → Edge → Bool
is_end_of v e = is_same_id v e.0 || is_same_id v e.1

or_assoc : (a b c : Bool) → a || (b || c) ≡ (a || b) || c
or_assoc true b c = refl
or_assoc false b c = refl

or_turned : (a b c : Bool) → b || (a || c) ≡ a || (b || c)
or_turned true true c = refl
or_turned true false c = refl
or_turned false true c = refl
or_turned false false c = refl

is_end_of_some : (v : Vid) (edges : List Edge) → has_id v (sources_and_destinations edges) ≡ list_any (is_end_of v) edges
is_end_of_some v [] = refl
is_end_of_some v (e ∷ edges) =
    ap (λ b. is_same_id v e.0 || (is_same_id v e.1 || b)) (is_end_of_some v edges)
    ∙ or_assoc (is_same_id v e.0) (is_same_id v e.1) (list_any (is_end_of v) edges)

-- edges in another order have the same ends
pub IsSetOf-permuted : (edges ordered : List Edge) (ids : List Vid) → IsPermutation edges ordered → IsSetOf (sources_and_destinations edges) ids → IsSetOf (sources_and_destinations ordered) ids
IsSetOf-permuted edges ordered ids same set = record {
  ascending = set.ascending;
  exact = λ v. set.exact v ∙ is_end_of_some v edges ∙ list_any-IsPermutation (is_end_of v) edges ordered same ∙ sym (is_end_of_some v ordered);
}

has_id-reversed : (v : Vid) (edges : List Edge) → has_id v (sources_and_destinations (reversed_edges edges)) ≡ has_id v (sources_and_destinations edges)
has_id-reversed v [] = refl
has_id-reversed v (e ∷ edges) =
    ap (λ b. is_same_id v e.1 || (is_same_id v e.0 || b)) (has_id-reversed v edges)
    ∙ or_turned (is_same_id v e.0) (is_same_id v e.1) (has_id v (sources_and_destinations edges))

-- and so have reversed edges
pub IsSetOf-reversed : (edges : List Edge) (ids : List Vid) → IsSetOf (sources_and_destinations edges) ids → IsSetOf (sources_and_destinations (reversed_edges edges)) ids
IsSetOf-reversed edges ids set = record {
  ascending = set.ascending;
  exact = λ v. set.exact v ∙ sym (has_id-reversed v edges);
}

-- and edges with new rows, one for each
pub ends_of_numbers-with_rows : (ids : List Vid) (rows : List (List Value)) (locals : List LocalEdge) (new : List (List Value)) → length new ≡ length locals
    → ends_of_numbers ids (numbers_with_rows locals new) ≡ sources_and_destinations (edges_of_locals ids rows locals)
ends_of_numbers-with_rows ids rows [] [] same = refl
ends_of_numbers-with_rows ids rows (e ∷ locals) [] same = absurd (omega (arith, same))
ends_of_numbers-with_rows ids rows [] (r ∷ new) same = absurd (omega (arith, same))
ends_of_numbers-with_rows ids rows (e ∷ locals) (r ∷ new) same =
    let rest = ends_of_numbers-with_rows ids rows locals new (omega (arith, same)) in rw rest refl

-- ---- the identifiers of ends, and ends by number

found-key : (v : Vid) (ends : List End) → has_id v (keys_of ends) ≡ is_some (sides_of_end v ends)
found-key v [] = refl
found-key v (e ∷ ends) = by (is_same_id v e.0) (found-key v ends)
  where
    by : (b : Bool) → has_id v (keys_of ends) ≡ is_some (sides_of_end v ends) → b || has_id v (keys_of ends) ≡ is_some (cond b (Some e.1) (sides_of_end v ends))
    by true rest = refl
    by false rest = rest

some-side : (a b : Bool) → is_some (sides_if_any a b) ≡ a || b
some-side true b = refl
some-side false true = refl
some-side false false = refl

or_pairs : (a b c d : Bool) → (a || c) || (b || d) ≡ a || (b || (c || d))
or_pairs true b c d = refl
or_pairs false true true d = refl
or_pairs false true false d = refl
or_pairs false false c d = refl

either_end : (v : Vid) (edges : List Edge) → list_any (λ e. is_same_id v e.0) (ends_of_edges edges) || list_any (λ e. is_same_id v e.1) (ends_of_edges edges) ≡ has_id v (sources_and_destinations edges)
either_end v [] = refl
either_end v (e ∷ edges) =
    or_pairs (is_same_id v e.0) (is_same_id v e.1) _ _
    ∙ ap (λ b. is_same_id v e.0 || (is_same_id v e.1 || b)) (either_end v edges)

-- the identifiers of the ends of edges are the set of their sources and destinations
pub IsSetOf-ends : (edges : List Edge) (ends : List End) → IsEndsOf (ends_of_edges edges) ends → IsSetOf (sources_and_destinations edges) (keys_of ends)
IsSetOf-ends edges ends are = record {
  ascending = are.ascending;
  exact = λ v.
      found-key v ends
      ∙ ap is_some (are.exact v)
      ∙ some-side (list_any (λ e. is_same_id v e.0) (ends_of_edges edges)) (list_any (λ e. is_same_id v e.1) (ends_of_edges edges))
      ∙ either_end v edges;
}

module _ (ids : List Vid) (rows : List (List Value)) where
  -- the edges by slots are the ends of the edges by numbers
  pub ends_of_locals : (locals : List LocalEdge) → edges_of_slots ids (map (λ e. e.src) locals) (map (λ e. e.dst) locals) ≡ ends_of_edges (edges_of_locals ids rows locals)
  ends_of_locals [] = refl
  ends_of_locals (e ∷ locals) = ap (λ es. (id_of_number ids e.src, id_of_number ids e.dst) ∷ es) (ends_of_locals locals)

  ids-of_locals : (v : Vid) (locals : List LocalEdge) → has_id v (ids_of_slots ids (map (λ e. e.src) locals)) || has_id v (ids_of_slots ids (map (λ e. e.dst) locals)) ≡ has_id v (sources_and_destinations (edges_of_locals ids rows locals))
  ids-of_locals v [] = refl
  ids-of_locals v (e ∷ locals) =
      or_pairs (is_same_id v (id_of_number ids e.src)) (is_same_id v (id_of_number ids e.dst)) _ _
      ∙ ap (λ b. is_same_id v (id_of_number ids e.src) || (is_same_id v (id_of_number ids e.dst) || b)) (ids-of_locals v locals)

  pub IsSetOf-slots : (locals : List LocalEdge) → IsSetOf (sources_and_destinations (edges_of_locals ids rows locals)) ids
      → IsSetOf (ids_of_slots ids (map (λ e. e.src) locals) ++ ids_of_slots ids (map (λ e. e.dst) locals)) ids
  IsSetOf-slots locals set = record {
    ascending = set.ascending;
    exact = λ v.
        set.exact v
        ∙ sym (ids-of_locals v locals)
        ∙ sym (list_any-append (is_same_id v) (ids_of_slots ids (map (λ e. e.src) locals)) (ids_of_slots ids (map (λ e. e.dst) locals)));
  }

  srcs-in_range : (locals : List LocalEdge) → AllByRecursion (IsInRange ids rows) locals → AllByRecursion (λ n. n < length ids) (map (λ e. e.src) locals)
  srcs-in_range [] all = tt
  srcs-in_range (e ∷ locals) all = (all.0.0, srcs-in_range locals all.1)

  dsts-in_range : (locals : List LocalEdge) → AllByRecursion (IsInRange ids rows) locals → AllByRecursion (λ n. n < length ids) (map (λ e. e.dst) locals)
  dsts-in_range [] all = tt
  dsts-in_range (e ∷ locals) all = (all.0.1, dsts-in_range locals all.1)

  pub All-srcs : (locals : List LocalEdge) → All (IsInRange ids rows) locals → All (λ n. n < length ids) (map (λ e. e.src) locals)
  All-srcs locals all = All-from_recursion (λ n. n < length ids) (map (λ e. e.src) locals) (srcs-in_range locals (recursion_from_All (IsInRange ids rows) locals all))

  pub All-dsts : (locals : List LocalEdge) → All (IsInRange ids rows) locals → All (λ n. n < length ids) (map (λ e. e.dst) locals)
  All-dsts locals all = All-from_recursion (λ n. n < length ids) (map (λ e. e.dst) locals) (dsts-in_range locals (recursion_from_All (IsInRange ids rows) locals all))
