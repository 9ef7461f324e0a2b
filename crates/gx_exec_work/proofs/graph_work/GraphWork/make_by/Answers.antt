use Rattle.std.proofs.Common.{◌≡◌, sym, ap, ◌∙◌}
use Rattle.std.proofs.lemmas.Result.{IfOk-weaker}
use Rattle.gx_cluster_state.specs.Values.{pointed_values}
use Rattle.gx_exec_contents.specs.MadeBlocks.{made_kind}
use Rattle.gx_exec_work.specs.MadeTables.{made_vertices}
use Rattle.gx_exec_work.specs.Works.{shown, shown_blocks}
use Rattle.gx_exec_work.proofs.Statements.{made_vertices-kind}
use Rattle.gx_plan.specs.StmtNodes.{statement_of}
use Rattle.gx_exec_work.proofs.graph_work.GraphWork.make_by.Goals as goal

pub returns-in-Vertices : goal.returns-in-Vertices
returns-in-Vertices c =
    let w = c.args.self.now.world in
    let r = c.args.r in
    let st = statement_of w.script r.statement in
    let contents = shown_blocks (pointed_values c.args.inputs.now) in
    IfOk-weaker c.make_vertices.result (λ t. shown t ≡ made_vertices w r c.args.part st contents) (λ t. shown t ≡ made_kind w r.kind r c.args.part st contents)
    (λ t e. e ∙ made_vertices-kind w r c.args.part st contents ∙ ap (λ k. made_kind w k r c.args.part st contents) (sym c.in-Vertices.is)) c.make_vertices.ensures
