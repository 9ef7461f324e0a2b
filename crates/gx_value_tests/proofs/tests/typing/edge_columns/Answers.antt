use Rattle.std.proofs.Common.{rules}
use Rattle.std.specs.List.{IsDistinct}
use Rattle.gx_value_tests.proofs.tests.typing.edge_columns.Goals as goal

pub of-requires-clause-distinct : goal.of-requires-clause-distinct
unfolding IsDistinct
of-requires-clause-distinct c = search rules
