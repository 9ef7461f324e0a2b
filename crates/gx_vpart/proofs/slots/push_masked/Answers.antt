use Rattle.std.proofs.Common.{arith}
use Rattle.gx_vpart.proofs.Spreading.{IsSpreadUpTo-item, IsSpreadUpTo-past}
use Rattle.gx_vpart.proofs.slots.push_masked.Goals as goal

pub returns-then-next-len : goal.returns-then-next-len
returns-then-next-len c rows start =
    rw c.in_ok-push.ensures
    (IsSpreadUpTo-item c.args.row (c.in_ok-next.ensures.same_rows rows start) (c.in_ok-next.ensures.masked (omega (arith, c.if-next-len.true, c.len.ensures.count))))

pub returns : goal.returns
returns c rows start =
    IsSpreadUpTo-past c.args.row (c.in_ok-next.ensures.same_rows rows start) (omega (arith, c.if-next-len.false, c.len.ensures.count))
