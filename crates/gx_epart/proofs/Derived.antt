-- Partitions that are made of another one, whose ends or rows they share.
use Rattle.std.proofs.Common.{◌≡◌, ◌<◌, ◌^◌, Bool, List, All, IsSorted, IsSortedBy, IsPermutation, length, map, ap, arith}
use Rattle.std.specs.List.Sorted.{IsStableBy}
use Rattle.std.specs.Map.{keys_of}
use Rattle.std.specs.Ordering.{is_lt}
use Rattle.std.proofs.lemmas.List.{length-map}
use Rattle.std.proofs.lemmas.List.Sorted.{All-permutation, IsPermutation-map, length_permutation}
use Rattle.gx_rows.specs.Order.{Edge, edge_cmp}
use Rattle.gx_rows.specs.declared.value.Value.{Value}
use Rattle.gx_rows.specs.declared.vid.Vid.{Vid}
use Rattle.gx_index.specs.Ends.{End, IsSetOf}
use Rattle.gx_epart.specs.declared.local_edge.LocalEdge.{LocalEdge}
use Rattle.gx_epart.specs.Edges.{IsEdgeOrderOf, edges_kept, edges_with_rows, reversed_edges, sources_and_destinations}
use Rattle.gx_epart.specs.Numbers.{HasEdges, HasEnds, HasIds, IsInRange, edge_of_local, edge_of_numbers, edges_of_locals, ends_of_numbers, numbers_with_rows, reversed_local}
use Rattle.gx_epart.proofs.DistinctEnds.{IsSetOf-ends, IsSetOf-permuted, IsSetOf-reversed, ends_of_numbers-with_rows}
use Rattle.gx_epart.proofs.Locals.{HasIds-with_rows, IsInRange-reversed, edges_of_locals-reversed, length-with_rows, numbers_with_rows-edges}
use Rattle.gx_epart.specs.OrderLaws.{All-kept, IsSorted-kept, length-kept, map-kept}
use Rattle.gx_epart.proofs.Reversing.{IsSorted-reversed, ends_cmp}
use Rattle.gx_epart.proofs.Making.{HasNumbers-within}
use Rattle.gx_epart.proofs.Renumbering.{HasEdges-anew, edges-anew}
use Rattle.gx_epart.specs.Renumbering.{HasNumbers, marked_by, numbers_anew, renumbered}
use Rattle.gx_index.specs.Sets.{masked_ids}

-- without the sides
pub HasEdges-ends : (ends : List End) (rows : List (List Value)) (locals : List LocalEdge) → HasEnds ends rows locals → HasEdges (keys_of ends) rows locals
HasEdges-ends ends rows locals has = record {
  few = has.few;
  in_range = has.in_range;
  sorted = has.sorted;
  exact = IsSetOf-ends (edges_of_locals (keys_of ends) rows locals) ends has.exact;
}

module _ (ids : List Vid) (rows : List (List Value)) (locals : List LocalEdge) (has : HasEdges ids rows locals) where
  -- ---- edges that are kept

  edges_of_locals-kept : (keeps : List Bool) → edges_of_locals ids rows (edges_kept locals keeps) ≡ edges_kept (edges_of_locals ids rows locals) keeps
  edges_of_locals-kept keeps = map-kept (edge_of_local ids rows) locals keeps

  pub in_range-kept : (keeps : List Bool) → All (IsInRange ids rows) (edges_kept locals keeps)
  in_range-kept keeps = All-kept (IsInRange ids rows) locals keeps has.in_range

  pub HasEdges-kept : (keeps : List Bool) (kept : List LocalEdge) → kept ≡ edges_kept locals keeps
      → let marks = marked_by (length ids) kept in HasEdges (masked_ids marks ids) rows (map (renumbered (numbers_anew 0 marks)) kept)
  HasEdges-kept keeps kept same =
      HasEdges-anew ids rows kept (rw same (in_range-kept keeps)) has.exact.ascending
      (omega (arith, ap length same, length-kept locals keeps, has.few))
      (rw (same, edges_of_locals-kept) (IsSorted-kept (edges_of_locals ids rows locals) keeps has.sorted))

  pub edges-kept : (edges : List Edge) (keeps : List Bool) (kept : List LocalEdge) → edges_of_locals ids rows locals ≡ edges → kept ≡ edges_kept locals keeps
      → let marks = marked_by (length ids) kept in edges_of_locals (masked_ids marks ids) rows (map (renumbered (numbers_anew 0 marks)) kept) ≡ edges_kept edges keeps
  edges-kept edges keeps kept shown same =
      rw (edges-anew ids rows kept (rw same (in_range-kept keeps)), same, ← shown) (edges_of_locals-kept keeps)

  -- ---- reversed edges

  module _ (locals' : List LocalEdge) (same : IsPermutation (map reversed_local locals) locals') (by_ends : IsSortedBy (λ a b. is_lt (ends_cmp a b)) locals')
      (stable : IsStableBy (λ a b. is_lt (ends_cmp a b)) (map reversed_local locals) locals') where
    in_range-turned : All (IsInRange ids rows) locals'
    in_range-turned = All-permutation (IsInRange ids rows) (map reversed_local locals) locals' same (IsInRange-reversed ids rows locals has.in_range)

    sorted-turned : IsSorted edge_cmp (edges_of_locals ids rows locals')
    sorted-turned = IsSorted-reversed ids rows locals locals' has.exact.ascending in_range-turned has.sorted by_ends stable

    same-turned : IsPermutation (reversed_edges (edges_of_locals ids rows locals)) (edges_of_locals ids rows locals')
    same-turned = rw (← edges_of_locals-reversed ids rows locals) (IsPermutation-map (edge_of_local ids rows) (map reversed_local locals) locals' same)

    exact-turned : IsSetOf (sources_and_destinations (edges_of_locals ids rows locals')) ids
    exact-turned =
        let edges = edges_of_locals ids rows locals in
        IsSetOf-permuted (reversed_edges edges) (edges_of_locals ids rows locals') ids same-turned (IsSetOf-reversed edges ids has.exact)

    pub HasEdges-reversed : HasEdges ids rows locals'
    HasEdges-reversed = record {
      few = omega (arith, length-map locals reversed_local, length_permutation (map reversed_local locals) locals' same, has.few);
      in_range = in_range-turned;
      sorted = sorted-turned;
      exact = exact-turned;
    }

    pub edges-reversed : (edges : List Edge) → edges_of_locals ids rows locals ≡ edges → IsEdgeOrderOf (reversed_edges edges) (edges_of_locals ids rows locals')
    edges-reversed edges shown = rw (← shown) (record {
      same = same-turned;
      sorted = sorted-turned;
    })

  -- ---- new rows

  module _ (new : List (List Value)) where
    pub few-with_rows : length (numbers_with_rows locals new) < 2 ^ 32
    few-with_rows = omega (arith, length-with_rows locals new, has.few)

    pub HasIds-remade : All (HasIds ids) (numbers_with_rows locals new)
    HasIds-remade = HasIds-with_rows ids rows locals new has.in_range

    pub edges-with_rows : (edges : List Edge) → edges_of_locals ids rows locals ≡ edges → map (edge_of_numbers ids) (numbers_with_rows locals new) ≡ edges_with_rows edges new
    edges-with_rows edges shown = rw (← shown) (numbers_with_rows-edges ids rows locals new)

    pub exact-with_rows : (edges : List Edge) → edges_of_locals ids rows locals ≡ edges → length new ≡ length edges → IsSetOf (ends_of_numbers ids (numbers_with_rows locals new)) ids
    exact-with_rows edges shown count =
        let same : length new ≡ length locals = omega (arith, count, ap length shown, length-map locals (edge_of_local ids rows)) in
        rw (ends_of_numbers-with_rows ids rows locals new same) has.exact

-- ---- the edges that are left, by their new numbers

module _ (ids : List Vid) (rows : List (List Value)) (locals : List LocalEdge) (has : HasEdges ids rows locals) (keeps : List Bool) (kept : List LocalEdge) (same : kept ≡ edges_kept locals keeps)
    (given left : List Vid) (rows' : List (List Value)) (anew : List LocalEdge) (given_is : given ≡ ids) (rows_are : rows' ≡ rows)
    (left_is : left ≡ masked_ids (marked_by (length given) kept) given) (anew_is : anew ≡ map (renumbered (numbers_anew 0 (marked_by (length given) kept))) kept) where
  pub HasEdges-left : HasEdges left rows' anew
  HasEdges-left = rw (left_is, anew_is, given_is, rows_are) (HasEdges-kept ids rows locals has keeps kept same)

  pub edges-left : (edges : List Edge) → edges_of_locals ids rows locals ≡ edges → edges_of_locals left rows' anew ≡ edges_kept edges keeps
  edges-left edges shown = rw (left_is, anew_is, given_is, rows_are) (edges-kept ids rows locals has edges keeps kept shown same)

pub numbers-left : (ids : List Vid) (rows : List (List Value)) (locals : List LocalEdge) → HasEdges ids rows locals → (keeps : List Bool) (kept : List LocalEdge) → kept ≡ edges_kept locals keeps
    → (given : List Vid) → given ≡ ids → All (HasNumbers (length given)) kept
numbers-left ids rows locals has keeps kept same given given_is = rw (given_is, same) (HasNumbers-within ids rows (edges_kept locals keeps) (in_range-kept ids rows locals has keeps))
