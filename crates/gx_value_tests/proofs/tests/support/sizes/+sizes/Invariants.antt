use Rattle.gx_value_tests.proofs.NodeSizes.{IsLeftOf}
use Rattle.gx_value_tests.proofs.tests.support.sizes.+sizes.Given as goal

-- what is left after the expressions passed
abbrev pub invariant-remaining_of_all-expressions : goal.invariant-remaining_of_all-expressions
invariant-remaining_of_all-expressions l = IsLeftOf l.expression-items l.fn.most l.expression-index l.rest
