use Rattle.gx_exec.proofs.HeldStops.{block-stop, held-found}
use Rattle.gx_exec.proofs.engine.Engine.stop_of_block.Goals as goal

pub unreachable-requires : goal.unreachable-requires
unreachable-requires c = held-found c.args.cluster.now c.args.b c.requires.held c.in_default.ensures

pub returns : goal.returns
returns c = block-stop c.of_block.result c.args.self.now c.args.cluster.now c.args.b c.deref.result.now _ c.requires.contents c.deref.ensures c.in-Some.ensures c.of_block.ensures
