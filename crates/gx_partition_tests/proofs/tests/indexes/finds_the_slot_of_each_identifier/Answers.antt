use Rattle.std.proofs.Common.{refl}
use Rattle.std.specs.List.{IsDistinct}
use Rattle.gx_partition_tests.proofs.tests.indexes.finds_the_slot_of_each_identifier.Goals as goal

pub of-requires-clause-distinct : goal.of-requires-clause-distinct
unfolding IsDistinct
of-requires-clause-distinct g c = rw c.as_slice.ensures ((refl, (refl, (refl, tt))), ((refl, (refl, tt)), ((refl, tt), (tt, tt))))

pub of-requires-2-clause-distinct : goal.of-requires-2-clause-distinct
unfolding IsDistinct
of-requires-2-clause-distinct g c = rw c.as_slice-3.ensures ((refl, (refl, (refl, tt))), ((refl, (refl, tt)), ((refl, tt), (tt, tt))))

pub of-requires-3-clause-distinct : goal.of-requires-3-clause-distinct
unfolding IsDistinct
of-requires-3-clause-distinct g c = tt
