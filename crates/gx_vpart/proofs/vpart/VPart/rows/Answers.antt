use Rattle.std.proofs.Common.{arith}
use Rattle.gx_vpart.proofs.MaskedRows.{IsAscending-masked_rows, length-masked_rows}
use Rattle.gx_vpart.proofs.vpart.VPart.rows.Goals as goal

pub returns-clause-fits_u32 : goal.returns-clause-fits_u32
returns-clause-fits_u32 c = rw (← c.self.view_is) (omega (arith, length-masked_rows c.self.inside.mask.value c.self.inside.index.value c.self.inside.rows.value, c.self.invariant.few))

pub returns-clause-ascending : goal.returns-clause-ascending
returns-clause-ascending c = rw (← c.self.view_is) (IsAscending-masked_rows c.self.inside.mask.value c.self.inside.index.value c.self.inside.rows.value c.self.invariant.ascending)
