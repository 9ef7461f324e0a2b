use Rattle.std.proofs.Common.{sym}
use Rattle.gx_vpart.proofs.Spreading.{set-same}
use Rattle.gx_vpart.proofs.slots.put.Goals as goal

pub returns-else-value : goal.returns-else-value
returns-else-value c = rw c.if-value.false (sym (set-same c.args.mask.now c.args.slot _ c.requires))
