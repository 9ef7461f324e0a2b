use Rattle.std.proofs.Common.{rules}
use Rattle.std.specs.List.{IsDistinct}
use Rattle.gx_types_clauses.proofs.declared.lone_type.Goals as goal

pub of-requires-2-clause-distinct : goal.of-requires-2-clause-distinct
unfolding IsDistinct
of-requires-2-clause-distinct c = search rules
