use Rattle.std.proofs.Common.{rules}
use Rattle.std.specs.List.{IsDistinct}
use Rattle.gx_file_tests.proofs.tests.csv.columns.Goals as goal

pub of-requires-3-clause-distinct : goal.of-requires-3-clause-distinct
unfolding IsDistinct
of-requires-3-clause-distinct c = search rules
