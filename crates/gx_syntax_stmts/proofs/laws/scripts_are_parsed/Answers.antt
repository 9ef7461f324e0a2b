use Rattle.std.proofs.Common.{refl}
use Rattle.gx_syntax_stmts.specs.Forms.{script}
use Rattle.gx_syntax_stmts.proofs.Refusals.{outcome}
use Rattle.gx_syntax_stmts.proofs.laws.scripts_are_parsed.Goals as goal

pub returns : goal.returns
returns c = λ ts.
    let law = c.expressions_are_parsed_exactly.ensures in
    outcome law.exact law.starts ts (script ts) refl
