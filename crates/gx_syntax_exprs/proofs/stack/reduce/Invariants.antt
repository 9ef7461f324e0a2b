-- Reducing what remains gives the result for the whole stack.
use Rattle.std.proofs.Common.{◌≡◌, length}
use Rattle.gx_syntax_exprs.specs.PrecedenceParser.{reduce}
use Rattle.gx_syntax_exprs.proofs.stack.reduce.Given as goal

abbrev pub invariant-loop-pending : goal.invariant-loop-pending
invariant-loop-pending l = reduce l.least l.x l.stack ≡ reduce l.fn.least l.fn.first l.fn.stack

abbrev pub decreases-loop-pending : goal.decreases-loop-pending
decreases-loop-pending l = length l.stack
