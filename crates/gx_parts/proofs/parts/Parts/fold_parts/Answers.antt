use Rattle.std.proofs.Common.{refl, arith}
use Rattle.gx_parts.proofs.Steps.{FoldedBy-all, FoldedBy-more}
use Rattle.gx_parts.proofs.parts.Parts.fold_parts.Goals as goal

pub loop-i-preserved : goal.loop-i-preserved
loop-i-preserved g c =
    FoldedBy-more c.args.self.now c.loop-i.i c.part.result.now c.in_ok-acc.acc c.loop-i.invariant c.part.ensures (c.part.result, refl, c.in_ok-acc.ensures)

pub returns : goal.returns
returns g c = FoldedBy-all c.loop-i.i c.loop-i.invariant (omega arith)
