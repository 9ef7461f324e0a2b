use Rattle.std.proofs.Common.{rules}
use Rattle.gx_cluster.specs.States.{shape}
use Rattle.gx_cluster_state.specs.Shapes.{is_held}
use Rattle.gx_exec.proofs.HeldStops.{first-held}
use Rattle.gx_exec.proofs.engine.Engine.+judge.Goals as goal

pub least_stop-requires-clause-held : goal.least_stop-requires-clause-held
least_stop-requires-clause-held n c =
    first-held (is_held (shape c.args.cluster.now)) c.args.self.now.world c.args.nodes.now c.in-Some.node.now c.in-Some.rest.now (search rules) c.requires.held
