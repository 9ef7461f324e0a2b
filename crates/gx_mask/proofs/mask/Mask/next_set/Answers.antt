use Rattle.std.proofs.Common.{arith, rules}
use Rattle.gx_mask.proofs.Represents.{represents}
use Rattle.gx_mask.proofs.Searching.{first_below, first_in, next_found, next_none, none_in}
use Rattle.gx_mask.proofs.mask.Mask.next_set.Goals as goal

pub overflow_add-result-then-rest-ne0 : goal.overflow_add-result-then-rest-ne0
overflow_add-result-then-rest-ne0 c =
    let first = first_in _ _ _ _ _ c.u64s.invariant (search rules) c.index.ensures (search rules) (search rules) (omega arith) c.if-rest-ne0.true in
    omega (arith, first_below (represents c.self.invariant c.self.view_is) first)

pub returns-then-rest-ne0 : goal.returns-then-rest-ne0
returns-then-rest-ne0 c =
    next_found (represents c.self.invariant c.self.view_is)
    (first_in _ _ _ _ _ c.u64s.invariant (search rules) c.index.ensures (search rules) (search rules) (omega arith) c.if-rest-ne0.true)

pub u64s-preserved : goal.u64s-preserved
u64s-preserved c = none_in _ _ _ _ _ c.u64s.invariant (search rules) c.index.ensures (search rules) c.if-rest-ne0.false

pub returns : goal.returns
returns c = next_none _ _ (represents c.self.invariant c.self.view_is) c.u64s.invariant (omega arith)
