use Rattle.gx_mask.proofs.Counting.{IsCountOf}
use Rattle.gx_mask.proofs.mask.Mask.count.Given as goal

abbrev pub invariant-u64s : goal.invariant-u64s
invariant-u64s l = IsCountOf l.self l.bits-index l.total
