use Rattle.std.proofs.Common.{◌≤◌, length, sym, subst}
use Rattle.gx_syntax_tokens.specs.Lexing.{tokens_of}
use Rattle.gx_syntax_tokens.specs.SpacedText.{terminals}
use Rattle.gx_syntax_stmts.specs.Forms.{SpellsScript}
use Rattle.gx_syntax_stmts.specs.Limits.{IsShort}
use Rattle.gx_syntax_show.specs.ScriptLines.{lines_of_script, text_of_script}
use Rattle.gx_syntax.proofs.round_trip.show_round_trips.Goals as goal

pub returns-clause-spells_script : goal.returns-clause-spells_script
returns-clause-spells_script c = λ text s d.
    let ts = terminals (tokens_of text) in
    let valid = c.shown_scripts_are_canonical.ensures.has_valid_tokens ts s d.spells (c.lexed_tokens_are_valid.ensures text) in
    let back = c.spaced_text_round_trips.ensures.lines (lines_of_script s) valid in
    record {
      offset = length (text_of_script s);
      ends = back.1;
      short = subst IsShort (sym back.0) (c.shown_scripts_are_canonical.ensures.is_within_limit ts s d.spells d.short);
      spells = subst (λ l. SpellsScript l s) (sym back.0) (c.shown_scripts_are_canonical.ensures.spells_it ts s d.spells);
    }

pub returns-clause-fewest_tokens : goal.returns-clause-fewest_tokens
returns-clause-fewest_tokens c = λ text s d.
    let ts = terminals (tokens_of text) in
    let valid = c.shown_scripts_are_canonical.ensures.has_valid_tokens ts s d.spells (c.lexed_tokens_are_valid.ensures text) in
    let back = c.spaced_text_round_trips.ensures.lines (lines_of_script s) valid in
    subst (λ l. length l ≤ length ts) (sym back.0) (c.shown_scripts_are_canonical.ensures.is_shortest ts s d.spells)
