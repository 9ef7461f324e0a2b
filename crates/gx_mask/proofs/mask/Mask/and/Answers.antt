use Rattle.std.proofs.Common.{rules}
use Rattle.gx_mask.proofs.Pairs.{and_of}
use Rattle.gx_mask.proofs.Represents.{bits_are, no_stray_bits, represents}
use Rattle.gx_mask.proofs.mask.Mask.and.Goals as goal

pub invariant_of-result : goal.invariant_of-result
invariant_of-result c =
    no_stray_bits (and_of (represents c.self.invariant c.self.view_is) (represents c.other.invariant c.other.view_is) c.requires (search rules))

pub returns : goal.returns
returns c =
    bits_are (and_of (represents c.self.invariant c.self.view_is) (represents c.other.invariant c.other.view_is) c.requires (search rules))
