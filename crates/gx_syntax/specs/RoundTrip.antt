-- The text that `show` gives for a script, and what it means.
use Rattle.std.specs.Prelude.{ℕ, ◌≤◌, List, length}
use Rattle.gx_syntax_tokens.specs.Lexing.{tokens_of}
use Rattle.gx_syntax_tokens.specs.SpacedText.{terminals}
use Rattle.gx_syntax_tree.specs.declared.stmt.Stmt.{Stmt}
use Rattle.gx_syntax_show.specs.ScriptLines.{text_of_script}
use Rattle.gx_syntax.specs.Texts.{SpellsText}

-- the canonical text of a script spells that script, if some text does
abbrev pub RoundTrips : Type 0
RoundTrips = (text : List ℕ) (s : List Stmt) → SpellsText text s → SpellsText (text_of_script s) s

-- and no text that spells the script has fewer tokens
abbrev pub HasFewestTokens : Type 0
HasFewestTokens = (text : List ℕ) (s : List Stmt) → SpellsText text s
    → length (terminals (tokens_of (text_of_script s))) ≤ length (terminals (tokens_of text))
