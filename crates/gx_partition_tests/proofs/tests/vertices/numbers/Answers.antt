use Rattle.gx_index.specs.Ids.{HasDistinctIds-from_ascending}
use Rattle.gx_partition_tests.proofs.tests.vertices.numbers.Goals as goal

pub of-requires-clause-distinct : goal.of-requires-clause-distinct
of-requires-clause-distinct c = rw (c.in_ok-rows.ensures, c.as_slice.ensures.value) (HasDistinctIds-from_ascending _ c.in_ok-ids.ensures.ascending)
