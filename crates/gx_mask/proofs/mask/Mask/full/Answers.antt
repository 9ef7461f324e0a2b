use Rattle.std.proofs.Common.{replicate, true, arith, rules}
use Rattle.gx_mask.proofs.Filling.{all_true_part, all_true_whole}
use Rattle.gx_mask.proofs.Represents.{bits_are, no_stray_bits}
use Rattle.gx_mask.proofs.mask.Mask.full.Goals.{then-len-ne0, else-len-ne0}
use Rattle.gx_mask.proofs.mask.Mask.full.Goals as goal

pub invariant_of-result : goal.invariant_of-result
invariant_of-result c =
    no_stray_bits {xs = replicate c.args.len true} (elim c.if-len-ne0.branch [
      | then-len-ne0 w ↦ rw w.u64s-is (all_true_part c.in_ok-u64s.u64s.items c.args.len (omega arith) (search rules) w.if-len-ne0.true)
      | else-len-ne0 w ↦ rw w.u64s-is (all_true_whole _ (omega arith) (search rules) w.if-len-ne0.false)
    ])

pub returns : goal.returns
returns c =
    bits_are (elim c.if-len-ne0.branch [
      | then-len-ne0 w ↦ rw w.u64s-is (all_true_part c.in_ok-u64s.u64s.items c.args.len (omega arith) (search rules) w.if-len-ne0.true)
      | else-len-ne0 w ↦ rw w.u64s-is (all_true_whole _ (omega arith) (search rules) w.if-len-ne0.false)
    ])
