use Rattle.std.proofs.Common.{arith, rules}
use Rattle.gx_mask.proofs.Counting.{count_all, count_fits, count_more}
use Rattle.gx_mask.proofs.Represents.{represents}
use Rattle.gx_mask.proofs.mask.Mask.count.Goals as goal

pub overflow_add-total : goal.overflow_add-total
overflow_add-total c = count_fits _ _ _ (represents c.self.invariant c.self.view_is) c.u64s.invariant (search rules) (search rules)

pub u64s-preserved : goal.u64s-preserved
u64s-preserved c = count_more _ _ _ (represents c.self.invariant c.self.view_is) c.u64s.invariant (search rules) (search rules)

pub returns : goal.returns
returns c = count_all _ _ (represents c.self.invariant c.self.view_is) c.u64s.invariant (omega arith)
