use Rattle.std.proofs.Common.{ap, ◌∙◌}
use Rattle.std.proofs.lemmas.Result.{IfOk-weaker}
use Rattle.gx_epart.specs.Edges.{IsEdgeOrderOf, edge_order_of, edges_lent}
use Rattle.gx_exec_loads.proofs.RowsOfParts.{edges-are}
use Rattle.gx_exec_loads.proofs.loaded_parts.LoadedParts.edges.Goals as goal

pub returns : goal.returns
returns c =
    let edges = edges_lent c.in_ok-edges.edges.items in
    let are = edges-are c.args.self.now c.args.s c.args.part c.rows_of_part.result.0.now c.rows_of_part.result.1.now edges c.requires.loads_edges c.rows_of_part.ensures.rows c.rows_of_part.ensures.positions c.in_ok-edges.ensures in
    IfOk-weaker c.from_lent.result (IsEdgeOrderOf edges) _
    (λ t order. c.edge_order_is_unique.ensures edges t order ∙ ap edge_order_of are) c.from_lent.ensures
