use Rattle.std.proofs.Common.{arith, sym}
use Rattle.gx_mask.proofs.Represents.{represents}
use Rattle.gx_mask.proofs.mask.Mask.len.Goals as goal

pub returns-clause-count : goal.returns-clause-count
returns-clause-count c = sym (represents c.self.invariant c.self.view_is).len

pub returns-clause-fits_u32 : goal.returns-clause-fits_u32
returns-clause-fits_u32 c = omega (arith, (represents c.self.invariant c.self.view_is).len)
