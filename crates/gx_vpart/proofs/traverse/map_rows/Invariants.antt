use Rattle.std.proofs.Common.{[]}
use Rattle.gx_traverse.specs.Calls.{ReturnsAtVertex}
use Rattle.gx_vpart.proofs.Mapping.{RowsSoFar}
use Rattle.gx_vpart.proofs.traverse.map_rows.Given as goal

-- each row so far has its row, at its slot
abbrev pub invariant-rows : goal.invariant-rows
invariant-rows g l = record {
  can : (goal.iterator-rows g).can_next l.v-iterator;
  ends : (goal.iterator-rows g).is_finite l.v-iterator;
  made : RowsSoFar (ReturnsAtVertex (goal.F-post g l.f)) [] l.mask l.initial.v-iterator l.v-iterator l.slot l.builder;
}
