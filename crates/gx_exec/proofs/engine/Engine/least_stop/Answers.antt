use Rattle.std.proofs.Common.{◌-◌, ◌∙◌, arith}
use Rattle.gx_cluster.specs.States.{shape}
use Rattle.gx_cluster_state.specs.Shapes.{is_held}
use Rattle.gx_exec_contents.specs.BlockContents.{stop_of}
use Rattle.gx_exec.proofs.HeldStops.{held-at, least-more}
use Rattle.gx_exec.proofs.engine.Engine.least_stop.Goals as goal

pub stop_of_block-requires-clause-held : goal.stop_of_block-requires-clause-held
stop_of_block-requires-clause-held c =
    held-at (is_held (shape c.args.cluster.now)) c.args.node 0 c.args.self.now.world.parts (c.parts-parts.result - 1 - c.loop-i.i) c.requires.held
    (omega arith) (omega (arith, c.parts-parts.ensures.count, c.loop-i-test.true))

pub loop-i-preserved : goal.loop-i-preserved
loop-i-preserved c =
    c.lesser-least.ensures
    ∙ least-more (λ j. stop_of c.args.self.now.world c.args.self.now.planned (record { node = c.args.node; part = j })) c.parts-parts.result c.loop-i.i
    c.in_ok-found.found c.loop-i.least c.loop-i-test.true c.in_ok-found.ensures c.loop-i.invariant
