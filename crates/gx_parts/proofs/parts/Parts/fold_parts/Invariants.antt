use Rattle.std.proofs.Common.{take}
use Rattle.gx_parts.specs.Calls.{FoldedBy, FoldStep}
use Rattle.gx_parts.proofs.parts.Parts.fold_parts.Given as goal

-- steps at the parts so far lead from the start to `acc`
abbrev pub invariant-loop-i : goal.invariant-loop-i
invariant-loop-i g l = FoldedBy (FoldStep (goal.F-post g l.f)) l.fn.start (take l.i l.self) l.acc
