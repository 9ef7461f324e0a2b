use Rattle.gx_vpart.proofs.Spreading.{ThinnedSoFar}
use Rattle.gx_vpart.proofs.slots.thin.Given as goal

abbrev pub invariant-loop-slot : goal.invariant-loop-slot
invariant-loop-slot l = ThinnedSoFar l.mask l.bools l.slot l.thinned l.rest
