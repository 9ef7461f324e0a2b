use Rattle.gx_types.proofs.MarkLemmas.{HaveMarked}
use Rattle.gx_types.proofs.marks.mark_each.Given as goal

-- the numbers passed are marked
abbrev pub invariant-numbers : goal.invariant-numbers
invariant-numbers l = HaveMarked l.numbers l.number-index l.initial.marks.items l.marks.items
