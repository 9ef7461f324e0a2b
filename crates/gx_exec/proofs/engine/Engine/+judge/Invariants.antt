use Rattle.std.proofs.Common.{length}
use Rattle.gx_exec.proofs.engine.Engine.+judge.Given as goal

abbrev pub decreases-judge : goal.decreases-judge
decreases-judge l = length l.nodes.now
