use Rattle.std.proofs.Common.{rules}
use Rattle.gx_mask.proofs.Pairs.{and_not_of}
use Rattle.gx_mask.proofs.Represents.{bits_are, no_stray_bits, represents}
use Rattle.gx_mask.proofs.mask.Mask.minus.Goals as goal

pub invariant_of-result : goal.invariant_of-result
invariant_of-result c =
    no_stray_bits (and_not_of (represents c.self.invariant c.self.view_is) (represents c.other.invariant c.other.view_is) c.requires
    (λ q. rw (← c.as_slice-2.ensures.value) (c.and_not_u64s.ensures.fits_u64 q)) (search rules))

pub returns : goal.returns
returns c =
    bits_are (and_not_of (represents c.self.invariant c.self.view_is) (represents c.other.invariant c.other.view_is) c.requires
    (λ q. rw (← c.as_slice-2.ensures.value) (c.and_not_u64s.ensures.fits_u64 q)) (search rules))
