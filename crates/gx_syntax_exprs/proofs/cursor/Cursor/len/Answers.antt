use Rattle.std.proofs.Common.{sym, ◌∙◌, ap, length}
use Rattle.gx_syntax_exprs.specs.Parses.{length-terminals_of}
use Rattle.gx_syntax_exprs.proofs.cursor.Cursor.len.Goals as goal

pub returns-clause-count : goal.returns-clause-count
returns-clause-count c = sym (length-terminals_of c.self.inside.rest.now) ∙ ap length c.self.view_is
