use Rattle.std.specs.List.{IsDistinct}
use Rattle.gx_types_stmts.proofs.known.Known.new.Goals as goal

pub of-requires-clause-distinct : goal.of-requires-clause-distinct
unfolding IsDistinct
of-requires-clause-distinct c = rw c.new-2.ensures.items tt
