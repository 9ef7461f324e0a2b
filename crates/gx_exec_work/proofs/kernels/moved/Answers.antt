use Rattle.std.proofs.Common.{◌≡◌, ap, ◌∙◌}
use Rattle.std.specs.List.{flat_map}
use Rattle.std.proofs.lemmas.Result.{IfOk-weaker}
use Rattle.gx_cluster_state.specs.Values.{pointed_values}
use Rattle.gx_epart.specs.Edges.{edge_order_of}
use Rattle.gx_exec_contents.specs.MadeBlocks.{edges_held}
use Rattle.gx_exec_contents.specs.PartContents.{Edges}
use Rattle.gx_exec_work.specs.Works.{shown, shown_blocks}
use Rattle.gx_gops.specs.AllEdges.{edges_of_parts}
use Rattle.gx_gops.specs.Moving.{edges_placed_in}
use Rattle.gx_exec_work.proofs.kernels.moved.Goals as goal

pub returns : goal.returns
returns c =
    let edges = c.in_ok-move_edges.field-0 in
    let held = flat_map edges_held (shown_blocks (pointed_values c.args.inputs.now)) in
    let all : edges_of_parts c.as_slice.result.now ≡ held = ap edges_of_parts c.as_slice.ensures.value ∙ c.in_ok-edges.ensures in
    let order = c.edge_order_is_unique.ensures (edges_placed_in c.args.cut c.args.part c.args.parts (edges_of_parts c.as_slice.result.now)) edges c.in_ok-move_edges.ensures in
    IfOk-weaker c.edges_block.result (λ b. shown b ≡ Edges edges) (λ b. shown b ≡ Edges (edge_order_of (edges_placed_in c.args.cut c.args.part c.args.parts held)))
    (λ b e. e ∙ ap Edges (order ∙ ap (λ es. edge_order_of (edges_placed_in c.args.cut c.args.part c.args.parts es)) all)) c.edges_block.ensures
