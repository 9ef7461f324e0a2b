use Rattle.gx_exec_answers.proofs.MovedItems.{seen-moved}
use Rattle.gx_exec_answers.proofs.edges.append_edges.Goals as goal

pub loop-i-preserved : goal.loop-i-preserved
loop-i-preserved c =
    seen-moved (λ e. (e.0, e.1, e.2.now)) c.loop-i.edges.items _ c.args.part.now _ c.loop-i.i c.edge.result c.edge.ensures c.in_ok-append.ensures c.loop-i.invariant
