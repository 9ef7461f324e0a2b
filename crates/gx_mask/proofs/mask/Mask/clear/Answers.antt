use Rattle.std.proofs.Common.{arith}
use Rattle.gx_mask.proofs.Represents.{bits_are, has_u64, no_stray_bits, represents}
use Rattle.gx_mask.proofs.Writing.{clear_bit}
use Rattle.gx_mask.proofs.mask.Mask.clear.Goals as goal

pub index_mut-requires : goal.index_mut-requires
index_mut-requires c = omega (arith, has_u64 c.args.i (represents c.self.invariant c.self.view_is) c.requires)

pub invariant_of-self : goal.invariant_of-self
invariant_of-self c = no_stray_bits (clear_bit _ _ (represents c.self.invariant c.self.view_is) c.requires c.index_mut.ensures.value)

pub returns : goal.returns
returns c = bits_are (clear_bit _ _ (represents c.self.invariant c.self.view_is) c.requires c.index_mut.ensures.value)
