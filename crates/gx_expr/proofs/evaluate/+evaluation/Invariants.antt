use Rattle.std.proofs.Common.{◌+◌, ◌*◌}
use Rattle.gx_expr.proofs.evaluate.+evaluation.Given as goal

abbrev pub decreases-number : goal.decreases-number
decreases-number g l = 2 * goal.size-number g l + 1

abbrev pub decreases-operand : goal.decreases-operand
decreases-operand g l = 2 * goal.size-operand g l
