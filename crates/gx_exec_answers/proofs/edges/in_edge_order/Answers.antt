use Rattle.std.proofs.Common.{◌∙◌, ap}
use Rattle.gx_epart.specs.Edges.{edge_order_of}
use Rattle.gx_exec_answers.specs.EdgeOrderLaws.{IsEdgeOrderOf-seen}
use Rattle.gx_exec_answers.proofs.edges.in_edge_order.Goals as goal

pub returns : goal.returns
returns c =
    let edges = c.in_ok-edges.edges.items in
    let ordered = c.sort.new.self.items in
    c.edge_order_is_unique.ensures _ _ (IsEdgeOrderOf-seen (λ e. (e.0, e.1, e.2.now)) edges ordered c.in_ok-sort.ensures.permutation c.in_ok-sort.ensures.sorted)
    ∙ ap edge_order_of c.in_ok-edges.ensures
