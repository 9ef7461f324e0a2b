use Rattle.std.proofs.Common.{rules}
use Rattle.std.specs.List.{IsDistinct}
use Rattle.gx_script_tests.proofs.tests.answers.weight_type.Goals as goal

pub of-requires-2-clause-distinct : goal.of-requires-2-clause-distinct
unfolding IsDistinct
of-requires-2-clause-distinct c = search rules
