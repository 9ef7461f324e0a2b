use Rattle.std.proofs.Common.{length}
use Rattle.gx_syntax_tests.proofs.tests.tokens.spelled.Given as goal

abbrev pub decreases-loop-token : goal.decreases-loop-token
decreases-loop-token l = length l.tokens.rest.tokens
