use Rattle.std.specs.List.{IsDistinct}
use Rattle.gx_partition_tests.proofs.tests.tables.nobody.Goals as goal

pub of-requires-clause-distinct : goal.of-requires-clause-distinct
unfolding IsDistinct
of-requires-clause-distinct c = rw c.new.ensures.items tt
