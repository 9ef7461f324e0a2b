use Rattle.std.proofs.Common.{true, subst}
use Rattle.gx_syntax_exprs.specs.Combinators.{many_while}
use Rattle.gx_syntax_exprs.specs.Parses.{Parses}
use Rattle.gx_syntax_stmts.specs.Forms.{statement, script}
use Rattle.gx_syntax_stmts.proofs.Loops.{appended-nothing}
use Rattle.gx_syntax_stmts.proofs.script.script.Goals as goal

pub returns : goal.returns
unfolding script
returns c = subst (λ q. Parses c.many.result c.many.new.cursor q) (appended-nothing (many_while (λ t. true) statement c.args.cursor.now)) (rw c.new.ensures at c.many.ensures)
