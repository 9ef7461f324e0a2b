use Rattle.std.proofs.Common.{arith}
use Rattle.gx_vpart.proofs.Spreading.{ThinnedSoFar-more}
use Rattle.gx_vpart.proofs.slots.thin.Goals as goal

pub loop-slot-preserved : goal.loop-slot-preserved
loop-slot-preserved c =
    rw (c.put.ensures, c.next_bool-keeps.ensures.item, c.next_bool-keeps.ensures.after)
    (ThinnedSoFar-more c.test.result c.loop-slot.invariant c.test.ensures (omega arith))
