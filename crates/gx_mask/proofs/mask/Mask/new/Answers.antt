use Rattle.std.proofs.Common.{arith, rules}
use Rattle.gx_mask.proofs.Filling.{all_false}
use Rattle.gx_mask.proofs.Represents.{bits_are, no_stray_bits}
use Rattle.gx_mask.proofs.mask.Mask.new.Goals as goal

pub invariant_of-result : goal.invariant_of-result
invariant_of-result c = no_stray_bits (all_false _ (omega arith) (search rules))

pub returns : goal.returns
returns c = bits_are (all_false _ (omega arith) (search rules))
