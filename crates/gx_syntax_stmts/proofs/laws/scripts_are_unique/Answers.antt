use Rattle.std.proofs.Common.{[]}
use Rattle.gx_syntax_stmts.proofs.Refusals.{parses_each, same_script}
use Rattle.gx_syntax_stmts.proofs.laws.scripts_are_unique.Goals as goal

pub returns : goal.returns
returns c = λ ts s u d e.
    let law = c.expressions_are_parsed_exactly.ensures in
    same_script law.exact law.starts ts s u [] (parses_each law.exact law.starts ts s d) e
