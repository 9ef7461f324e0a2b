-- Edges whose rows are lent, sorted, and the partition with copies of the rows.
use Rattle.std.proofs.Common.{◌≡◌, ℕ, ◌+◌, ◌<◌, ◌^◌, false, List, [], ◌∷◌, All, IsPermutation, IsSorted, get_or, length, ap, ◌∙◌, arith}
use Rattle.std.specs.Ordering.{int_cmp, is_lt, ordering_then}
use Rattle.std.specs.declared.cmp.Ordering.{Ordering}
use Rattle.std.proofs.lemmas.List.{get_or-map, length-map}
use Rattle.std.proofs.lemmas.List.Sorted.{IsPermutation-map, length_permutation}
use Rattle.gx_rows.specs.Order.{Edge, edge_cmp, row_cmp}
use Rattle.gx_rows.specs.declared.value.Value.{Value}
use Rattle.gx_rows.specs.declared.vid.Vid.{Vid}
use denote.Ref.{Bor}
use Rattle.gx_index.specs.Ends.{IsSetOf}
use Rattle.gx_epart.specs.Edges.{IsEdgeOrderOf, edges_lent, sources_and_destinations}
use Rattle.gx_epart.specs.declared.local_edge.LocalEdge.{LocalEdge}
use Rattle.gx_epart.specs.Numbers.{HasEdges, IsInRange, edge_of_local, edges_of_locals, rows_of}
use Rattle.gx_epart.specs.OrderLaws.{then-assoc}

abbrev LentEdge : Type 0
LentEdge = Vid × Vid × Bor (List Value)

abbrev edge_lent : LentEdge → Edge
edge_lent e = (e.0, e.1, e.2.now)

-- the order of a tuple of three, which compares the first two before the third
abbrev pub lent_cmp : LentEdge → LentEdge → Ordering
lent_cmp e f = ordering_then (ordering_then (int_cmp e.0.0 f.0.0) (int_cmp e.1.0 f.1.0)) (row_cmp e.2.now f.2.now)

lent_cmp-edge : (e f : LentEdge) → edge_cmp (edge_lent e) (edge_lent f) ≡ lent_cmp e f
lent_cmp-edge e f = then-assoc (int_cmp e.0.0 f.0.0) (int_cmp e.1.0 f.1.0) (row_cmp e.2.now f.2.now)

sorted_lent : (es : List LentEdge) → IsSorted lent_cmp es → IsSorted edge_cmp (edges_lent es)
sorted_lent es sorted k d low high =
    let within : k + 1 < length es = rw length-map at high in
    by es sorted k within d
  where
    by : (es : List LentEdge) → IsSorted lent_cmp es → (k : ℕ) → k + 1 < length es → (d : Edge) → is_lt (edge_cmp (get_or (edges_lent es) (k + 1) d) (get_or (edges_lent es) k d)) ≡ false
    by [] sorted k within d = absurd (omega arith)
    by (e ∷ es) sorted k within d =
        let before : k < length (e ∷ es) = omega arith in
        rw (get_or-map edge_lent (e ∷ es) (k + 1) e d within, get_or-map edge_lent (e ∷ es) k e d before)
        (ap is_lt (lent_cmp-edge (get_or (e ∷ es) (k + 1) e) (get_or (e ∷ es) k e)) ∙ sorted k e (omega arith) within)

-- lent edges that are sorted
pub IsEdgeOrderOf-lent : (es ordered : List LentEdge) → IsPermutation es ordered → IsSorted lent_cmp ordered → IsEdgeOrderOf (edges_lent es) (edges_lent ordered)
IsEdgeOrderOf-lent es ordered same sorted = record {
  same = IsPermutation-map edge_lent es ordered same;
  sorted = sorted_lent ordered sorted;
}

pub few-ordered : (es ordered : List LentEdge) → IsPermutation es ordered → length es < 2 ^ 32 → length (edges_lent ordered) < 2 ^ 32
few-ordered es ordered same few = omega (arith, few, length-map ordered edge_lent, length_permutation es ordered same)

pub edges-copied : (ids : List Vid) (edges : List Edge) (rows : List (List Value)) (locals : List LocalEdge) → rows ≡ rows_of edges → edges_of_locals ids (rows_of edges) locals ≡ edges
    → edges_of_locals ids rows locals ≡ edges
edges-copied ids edges rows locals rows_are locals_are = rw rows_are locals_are

-- edges in edge order, by the numbers of their ends
pub HasEdges-copied : (ids : List Vid) (edges : List Edge) (rows : List (List Value)) (locals : List LocalEdge) → rows ≡ rows_of edges → edges_of_locals ids (rows_of edges) locals ≡ edges
    → length edges < 2 ^ 32 → All (IsInRange ids (rows_of edges)) locals → IsSorted edge_cmp edges → IsSetOf (sources_and_destinations edges) ids → HasEdges ids rows locals
HasEdges-copied ids edges rows locals rows_are locals_are few in_range sorted set = rw rows_are (record {
  few = omega (arith, few, ap length locals_are, length-map locals (edge_of_local ids (rows_of edges)));
  in_range = in_range;
  sorted = rw locals_are sorted;
  exact = rw locals_are set;
})
