use Rattle.std.proofs.Common.{IsPermutation, subst}
use Rattle.std.proofs.lemmas.List.Sorted.{IsPermutation-map, IsPermutation-trans}
use Rattle.std.proofs.lemmas.Result.{IfOk-weaker}
use Rattle.gx_rows.specs.Order.{Edge}
use Rattle.gx_epart.specs.Edges.{IsEdgeOrderOf, edges_lent}
use Rattle.gx_gops.specs.AllEdges.{edges_of_parts}
use Rattle.gx_gops.specs.Moving.{edges_placed_in}
use Rattle.gx_gops.proofs.moved_edges.move_edges.Goals as goal

pub returns : goal.returns
returns c =
    let placed = edges_placed_in c.args.cut c.args.part c.args.parts (edges_of_parts c.args.edges.now) in
    let moved = c.in_ok-moved.moved.items in
    let merged = c.sort.new.self.items in
    let lent = IsPermutation-map {X = Edge} (λ e. (e.0, e.1, e.2.now)) moved merged c.in_ok-sort.ensures.permutation in
    let same = subst (λ edges. IsPermutation edges (edges_lent merged)) c.in_ok-moved.ensures lent in
    IfOk-weaker c.from_lent.result (IsEdgeOrderOf (edges_lent merged)) (IsEdgeOrderOf placed)
    (λ part order. record { same = IsPermutation-trans placed (edges_lent merged) part same order.same; sorted = order.sorted }) c.from_lent.ensures
