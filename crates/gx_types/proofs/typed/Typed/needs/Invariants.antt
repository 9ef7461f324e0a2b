use Rattle.gx_types.proofs.NeedLemmas.{AreFollowed}
use Rattle.gx_types.proofs.typed.Typed.needs.Given as goal

-- the statements from i on are followed
abbrev pub invariant-statements : goal.invariant-statements
invariant-statements l = AreFollowed l.self l.s l.i l.marks.items

abbrev pub decreases-statements : goal.decreases-statements
decreases-statements l = l.i
