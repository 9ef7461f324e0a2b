use Rattle.gx_types.proofs.MarkLemmas.{AreListed}
use Rattle.gx_types.proofs.marks.marked.Given as goal

-- the marks passed are listed
abbrev pub invariant-marks : goal.invariant-marks
invariant-marks l = AreListed l.marks l.i l.numbers.items
