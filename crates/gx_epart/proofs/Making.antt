-- A partition is made of edges by numbers.
use Rattle.std.proofs.Common.{◌≡◌, ℕ, ◌<◌, ◌^◌, ◌++◌, List, [], ◌∷◌, All, length, map, ap, sym, ◌∙◌, subst, arith, refl}
use Rattle.std.specs.Map.{keys_of}
use Rattle.std.proofs.lemmas.List.{length-map}
use Rattle.std.proofs.lemmas.List.Elements.{All-from_recursion, recursion_from_All}
use Rattle.std.specs.List.{AllByRecursion}
use Rattle.gx_rows.specs.Order.{Edge}
use Rattle.gx_rows.specs.declared.value.Value.{Value}
use Rattle.gx_rows.specs.declared.vid.Vid.{Vid}
use Rattle.gx_index.specs.Ends.{End, IsEndsOf, IsSetOf, edges_of_slots, ids_of_slots}
use Rattle.gx_epart.specs.declared.local_edge.LocalEdge.{LocalEdge}
use Rattle.gx_epart.specs.Edges.{ends_of_edges}
use Rattle.gx_epart.specs.Numbers.{HasEdges, HasEnds, IsInRange, edges_of_locals}
use Rattle.gx_epart.specs.Renumbering.{HasNumbers}
use Rattle.gx_epart.proofs.DistinctEnds.{All-dsts, All-srcs, IsSetOf-slots, ends_of_locals}

module _ (ids : List Vid) (rows : List (List Value)) (edges locals : List LocalEdge) (srcs dsts : List ℕ) (has : HasEdges ids rows edges) (same : locals ≡ edges)
    (srcs_are : srcs ≡ map (λ e. e.src) locals) (dsts_are : dsts ≡ map (λ e. e.dst) locals) where
  pub even-slots : length srcs ≡ length dsts
  even-slots = omega (arith, ap length srcs_are, ap length dsts_are, length-map locals (λ e. e.src), length-map locals (λ e. e.dst))

  pub srcs-within : All (λ n. n < length ids) srcs
  srcs-within = rw (srcs_are, same) (All-srcs ids rows edges has.in_range)

  pub dsts-within : All (λ n. n < length ids) dsts
  dsts-within = rw (dsts_are, same) (All-dsts ids rows edges has.in_range)

  pub exact-slots : IsSetOf (ids_of_slots ids srcs ++ ids_of_slots ids dsts) ids
  exact-slots = rw (srcs_are, dsts_are, same) (IsSetOf-slots ids rows edges has.exact)

  module _ (ends : List End) (keys : keys_of ends ≡ ids) (are : IsEndsOf (edges_of_slots ids srcs dsts) ends) where
    slots-are : edges_of_slots ids srcs dsts ≡ ends_of_edges (edges_of_locals ids rows edges)
    slots-are =
        ap (λ ns. edges_of_slots ids ns dsts) (srcs_are ∙ ap (map (λ e. e.src)) same)
        ∙ ap (λ ns. edges_of_slots ids (map (λ e. e.src) edges) ns) (dsts_are ∙ ap (map (λ e. e.dst)) same)
        ∙ ends_of_locals ids rows edges

    pub edges-of : edges_of_locals (keys_of ends) rows locals ≡ edges_of_locals ids rows edges
    edges-of = rw (keys, same) refl

    pub HasEnds-of : HasEnds ends rows locals
    HasEnds-of = record {
      few = rw same has.few;
      in_range = rw (keys, same) has.in_range;
      sorted = rw (keys, same) has.sorted;
      exact = subst (λ es. IsEndsOf (ends_of_edges es) ends) (sym edges-of) (subst (λ es. IsEndsOf es ends) slots-are are);
    }

numbers-within : (ids : List Vid) (rows : List (List Value)) (edges : List LocalEdge) → AllByRecursion (IsInRange ids rows) edges → AllByRecursion (HasNumbers (length ids)) edges
numbers-within ids rows [] all = tt
numbers-within ids rows (e ∷ edges) all = ((all.0.0, all.0.1), numbers-within ids rows edges all.1)

pub HasNumbers-within : (ids : List Vid) (rows : List (List Value)) (edges : List LocalEdge) → All (IsInRange ids rows) edges → All (HasNumbers (length ids)) edges
HasNumbers-within ids rows edges all = All-from_recursion (HasNumbers (length ids)) edges (numbers-within ids rows edges (recursion_from_All (IsInRange ids rows) edges all))
