use Rattle.gx_syntax_tokens.proofs.ScanLemmas.{no_value}
use Rattle.gx_syntax_tokens.proofs.lexer.value_of.Goals as goal

pub returns-in_default-2 : goal.returns-in_default-2
returns-in_default-2 c = no_value c.args.digits.now c.in_default.field-0 c.in_default.ensures.value.0 c.requires.digits c.requires.nonempty
