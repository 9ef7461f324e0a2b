use Rattle.gx_syntax_tokens.specs.Lexing.{tokens_of}
use Rattle.gx_syntax_tokens.specs.SpacedText.{terminals, terminals_of_lines}
use Rattle.gx_syntax_show.specs.ScriptLines.{lines_of_script}
use Rattle.gx_syntax.proofs.BoundedScripts.{bounded_script}
use Rattle.gx_syntax.proofs.OpenStatements.{short_after}
use Rattle.gx_syntax.proofs.laws.parsed_scripts_are_bounded.Goals as goal

pub returns : goal.returns
returns c = λ text s d.
    let ts = terminals (tokens_of text) in
    let shown = c.shown_scripts_are_canonical.ensures in
    bounded_script s (shown.has_valid_tokens ts s d.spells (c.lexed_tokens_are_valid.ensures text))
    (short_after (terminals_of_lines (lines_of_script s)) (shown.is_within_limit ts s d.spells d.short))
