use Rattle.std.specs.Map.{keys_of}
use Rattle.std.proofs.lemmas.Map.Keys.{sorted_tail}
use Rattle.gx_index.specs.Ids.{id_cmp}
use Rattle.gx_vpart.proofs.Joining.{IsAscending-rows_not_below, left_join-next}
use Rattle.gx_vpart.proofs.beside.BesideIterator.next.Goals as goal

pub invariant_of-self-2 : goal.invariant_of-self-2
invariant_of-self-2 c = (
  sorted_tail id_cmp c.in-Some.v (keys_of c.next.new.self) (rw c.in-Some.ensures.steps at c.self.invariant.0),
  rw c.partner-other.ensures.rest (IsAscending-rows_not_below c.in-Some.v c.self.inside.right c.self.invariant.1),
)

pub returns-clause-steps : goal.returns-clause-steps
returns-clause-steps c =
    rw (← c.self.view_is, c.in-Some.ensures.steps, c.partner-other.ensures.found, c.partner-other.ensures.rest)
    (left_join-next (c.in-Some.v, c.in-Some.row.now) c.next.new.self c.self.inside.right (rw c.in-Some.ensures.steps at c.self.invariant.0))
