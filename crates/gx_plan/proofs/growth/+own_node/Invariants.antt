use Rattle.std.proofs.Common.{length}
use Rattle.gx_plan.proofs.growth.+own_node.Given as goal

abbrev pub decreases-own_node : goal.decreases-own_node
decreases-own_node l = length l.kinds.now
