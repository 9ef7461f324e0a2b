use Rattle.std.specs.List.{IsDistinct}
use Rattle.gx_script_tests.proofs.tests.reads.one_person.Goals as goal

pub of-requires-2-clause-distinct : goal.of-requires-2-clause-distinct
unfolding IsDistinct
of-requires-2-clause-distinct c = rw (c.in_ok-push.ensures.items, c.new-rows.ensures.items) (tt, tt)
