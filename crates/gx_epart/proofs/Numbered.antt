-- Edges with the numbers of their ends: one more of them, and all of them sorted.
use Rattle.std.proofs.Common.{◌≡◌, ℕ, ◌<◌, ◌^◌, IsPermutation, IsSorted, arith, List, Some, All, length, map, slice_get, pos}
use Rattle.std.proofs.lemmas.Option.{get_or_from_slice_get}
use Rattle.gx_rows.specs.Order.{edge_cmp}
use Rattle.gx_rows.specs.declared.value.Value.{Value}
use Rattle.gx_rows.specs.declared.vid.Vid.{Vid}
use Rattle.std.proofs.lemmas.List.Sorted.{All-permutation, IsPermutation-map}
use Rattle.gx_index.specs.Ends.{IsSetOf}
use Rattle.gx_index.specs.Ids.{IsAscending}
use Rattle.gx_epart.specs.declared.local_edge.LocalEdge.{LocalEdge}
use Rattle.gx_epart.specs.Edges.{IsEdgeOrderOf}
use Rattle.gx_epart.specs.Numbers.{HasEdges, HasIds, edge_of_numbers, edges_of_locals, ends_of_numbers, id_of_number, locals_of}
use Rattle.gx_epart.proofs.DistinctEnds.{IsSetOf-permuted}
use Rattle.gx_epart.proofs.Locals.{IsInRange-of, edges_of_locals-of, length-locals_of}
use Rattle.gx_epart.specs.OrderLaws.{IsSorted-edge_of_numbers, numbered_cmp}

pub id_of_number-at : (ids : List Vid) (n : ℕ) (v : Vid) → slice_get ids n ≡ Some v → id_of_number ids n ≡ v
id_of_number-at ids n v at = get_or_from_slice_get ids n v (record { 0 = pos 0 }) at

module _ (ids : List Vid) (es : List (ℕ × ℕ × List Value)) (rows : List (List Value)) (locals : List LocalEdge)
    (rows_are : rows ≡ map (λ e. e.2) es) (locals_are : locals ≡ locals_of es) where
  pub HasEdges-packed : length es < 2 ^ 32 → All (HasIds ids) es → IsSorted edge_cmp (map (edge_of_numbers ids) es)
      → IsSetOf (ends_of_numbers ids es) ids → HasEdges ids rows locals
  HasEdges-packed few known sorted exact = rw (rows_are, locals_are) (record {
    few = omega (arith, length-locals_of es, few);
    in_range = IsInRange-of ids es known;
    sorted = rw edges_of_locals-of sorted;
    exact = rw edges_of_locals-of exact;
  })

  pub edges-packed : edges_of_locals ids rows locals ≡ map (edge_of_numbers ids) es
  edges-packed = rw (rows_are, locals_are) (edges_of_locals-of ids es)

module _ (ids : List Vid) (es ordered : List (ℕ × ℕ × List Value)) (ascending : IsAscending ids) (known : All (HasIds ids) es)
    (same : IsPermutation es ordered) (sorted : IsSorted numbered_cmp ordered) where
  pub HasIds-ordered : All (HasIds ids) ordered
  HasIds-ordered = All-permutation (HasIds ids) es ordered same known

  pub exact-ordered : IsSetOf (ends_of_numbers ids es) ids → IsSetOf (ends_of_numbers ids ordered) ids
  exact-ordered = IsSetOf-permuted (map (edge_of_numbers ids) es) (map (edge_of_numbers ids) ordered) ids (IsPermutation-map (edge_of_numbers ids) es ordered same)

  pub IsEdgeOrderOf-ordered : IsEdgeOrderOf (map (edge_of_numbers ids) es) (map (edge_of_numbers ids) ordered)
  IsEdgeOrderOf-ordered = record {
    same = IsPermutation-map (edge_of_numbers ids) es ordered same;
    sorted = IsSorted-edge_of_numbers ids ordered ascending HasIds-ordered sorted;
  }
