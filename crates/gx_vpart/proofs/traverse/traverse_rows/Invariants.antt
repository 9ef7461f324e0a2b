use Rattle.gx_traverse.specs.Calls.{ReturnsAtVertex}
use Rattle.gx_traverse.specs.Steps.{SoFar}
use Rattle.gx_vpart.proofs.traverse.traverse_rows.Given as goal

-- each row so far has its value
abbrev pub invariant-rows : goal.invariant-rows
invariant-rows g l = record {
  can : (goal.iterator-rows g).can_next l.v-iterator;
  ends : (goal.iterator-rows g).is_finite l.v-iterator;
  so_far : SoFar (ReturnsAtVertex (goal.F-post g l.f)) l.initial.v-iterator l.v-iterator l.values.items;
}
