-- A stable sort of reversed edges by their ends puts them in edge order.
use Rattle.std.proofs.Common.{◌≡◌, ◌+◌, ◌<◌, Bool, false, List, All, IsSorted, IsSortedBy, get_or, length, map, refl, arith}
use Rattle.std.specs.Cmp.{IsTotalOrder}
use Rattle.std.specs.List.Sorted.{IsStableBy}
use Rattle.std.specs.Ordering.{nat_cmp, is_lt, ordering_then}
use Rattle.std.specs.declared.cmp.Ordering.{Ordering}
use Rattle.std.specs.declared.cmp.Ordering.TheVariants.{Less, Equal, Greater}
use Rattle.std.proofs.lemmas.Cmp.{nat_cmp_total, on_total, then_total, tied_back}
use Rattle.std.proofs.lemmas.List.{get_or-map, length-map}
use Rattle.std.proofs.lemmas.List.MinMax.{ranks_by}
use Rattle.std.proofs.lemmas.List.Sorted.{ties_stay_sorted}
use Rattle.gx_rows.specs.Order.{Edge, edge_cmp, edge_cmp-total, row_cmp}
use Rattle.gx_rows.specs.declared.value.Value.{Value}
use Rattle.gx_rows.specs.declared.vid.Vid.{Vid}
use Rattle.gx_index.specs.Ids.{IsAscending}
use Rattle.gx_epart.specs.declared.local_edge.LocalEdge.{LocalEdge}
use Rattle.gx_epart.specs.Edges.{reversed_edge}
use Rattle.gx_epart.specs.Numbers.{IsInRange, edge_of_local, edges_of_locals, reversed_local}
use Rattle.gx_epart.specs.OrderLaws.{cmp-numbers}

-- by the number of the source, then of the destination
abbrev pub ends_cmp : LocalEdge → LocalEdge → Ordering
ends_cmp a b = ordering_then (nat_cmp a.src b.src) (nat_cmp a.dst b.dst)

ends_cmp-total : IsTotalOrder ends_cmp
ends_cmp-total = then_total (on_total (λ e. e.src) nat_cmp_total) (on_total (λ e. e.dst) nat_cmp_total)

then-Equal : (r s : Ordering) → ordering_then r s ≡ Equal → (r ≡ Equal) × (s ≡ Equal)
then-Equal Less s e = cc
then-Equal Equal s e = (refl, e)
then-Equal Greater s e = cc

then-not_less : (r s t : Ordering) → is_lt (ordering_then r s) ≡ false → (ordering_then r s ≡ Equal → is_lt t ≡ false) → is_lt (ordering_then r (ordering_then s t)) ≡ false
then-not_less Less s t not_less last = cc
then-not_less Greater s t not_less last = refl
then-not_less Equal Less t not_less last = cc
then-not_less Equal Equal t not_less last = last refl
then-not_less Equal Greater t not_less last = refl

module _ (ids : List Vid) (rows : List (List Value)) where
  -- the edge before it was reversed
  abbrev before_reversal : LocalEdge → Edge
  before_reversal e = reversed_edge (edge_of_local ids rows e)

  sorted_before : (locals : List LocalEdge) → IsSorted edge_cmp (edges_of_locals ids rows locals)
      → IsSortedBy (λ x y. is_lt (edge_cmp (before_reversal x) (before_reversal y))) (map reversed_local locals)
  sorted_before locals sorted k d low high =
      let next : k + 1 < length locals = rw length-map at high in
      let before : k < length locals = omega arith in
      let e = edge_of_local ids rows d in
      rw (get_or-map reversed_local locals k d d before, get_or-map reversed_local locals (k + 1) d d next)
      (rw (get_or-map (edge_of_local ids rows) locals k d e before, get_or-map (edge_of_local ids rows) locals (k + 1) d e next) at
      (sorted k e low (rw length-map next)))

  pub IsSorted-reversed : (locals turned : List LocalEdge) → IsAscending ids → All (IsInRange ids rows) turned
      → IsSorted edge_cmp (edges_of_locals ids rows locals)
      → IsSortedBy (λ a b. is_lt (ends_cmp a b)) turned → IsStableBy (λ a b. is_lt (ends_cmp a b)) (map reversed_local locals) turned
      → IsSorted edge_cmp (edges_of_locals ids rows turned)
  IsSorted-reversed locals turned ascending known sorted by_ends stable k d low high =
      let next : k + 1 < length turned = rw length-map at high in
      let before : k < length turned = omega arith in
      let e : LocalEdge = record { src = 0; dst = 0; row = 0 } in
      let a = get_or turned k e in
      let b = get_or turned (k + 1) e in
      let in_a = known k e before in
      let in_b = known (k + 1) e next in
      let lt : LocalEdge → LocalEdge → Bool = λ x y. is_lt (edge_cmp (before_reversal x) (before_reversal y)) in
      let by : LocalEdge → LocalEdge → Bool = λ x y. is_lt (ends_cmp x y) in
      let src = cmp-numbers ids b.src a.src ascending in_b.0 in_a.0 in
      let dst = cmp-numbers ids b.dst a.dst ascending in_b.1 in_a.1 in
      rw (get_or-map (edge_of_local ids rows) turned k e d before, get_or-map (edge_of_local ids rows) turned (k + 1) e d next)
      (rw (src, dst)
      (then-not_less (nat_cmp b.src a.src) (nat_cmp b.dst a.dst) (row_cmp (edge_of_local ids rows b).2 (edge_of_local ids rows a).2) (by_ends k e low next)
      (λ tie.
      let back = tied_back ends_cmp-total b a tie in
      let kept = ties_stay_sorted lt by (ranks_by edge_cmp-total before_reversal) (ranks_by ends_cmp-total (λ x. x)) (map reversed_local locals) turned (sorted_before locals sorted) stable k e next (rw (tie, back) refl) in
      let both = then-Equal (nat_cmp b.src a.src) (nat_cmp b.dst a.dst) tie in
      rw (src, dst, both.0, both.1) at kept)))
