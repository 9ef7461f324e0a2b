-- The items so far, and then what the rest gives, is what all tokens give.
use Rattle.std.proofs.Common.{◌≡◌, ◌-◌}
use Rattle.gx_syntax_stmts.specs.Parts.{appended}
use Rattle.gx_syntax_stmts.proofs.Loops.{appended_within}
use Rattle.gx_syntax_stmts.proofs.repetition.many.Given as goal

abbrev pub invariant-items : goal.invariant-items
invariant-items g l = appended_within g.R.Repeated.starts g.R.Repeated.parsed l.items (l.most - l.counter) l.cursor ≡ appended l.fn.items g.R.Repeated.starts g.R.Repeated.parsed l.fn.cursor
