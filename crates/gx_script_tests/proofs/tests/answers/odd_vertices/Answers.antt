use Rattle.std.proofs.Common.{refl}
use Rattle.std.specs.List.{IsDistinct}
use Rattle.gx_script_tests.proofs.tests.answers.odd_vertices.Goals as goal

pub of-requires-clause-distinct : goal.of-requires-clause-distinct
unfolding IsDistinct
of-requires-clause-distinct c = rw (c.in_ok-push-2.ensures.items, c.in_ok-push.ensures.items, c.new-rows.ensures.items) ((refl, tt), (tt, tt))
