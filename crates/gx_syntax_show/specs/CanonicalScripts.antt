-- What holds of the lines of a script, compared with any tokens that spell it.
use Rattle.std.specs.Prelude.{◌≤◌, List, length}
use Rattle.gx_syntax_tokens.specs.SpacedText.{AreValidLines, AreValidTerminals, terminals_of_lines}
use Rattle.gx_syntax_tokens.specs.Terminals.{Terminal}
use Rattle.gx_syntax_tree.specs.declared.stmt.Stmt.{Stmt}
use Rattle.gx_syntax_stmts.specs.Forms.{SpellsScript}
use Rattle.gx_syntax_stmts.specs.Limits.{IsShort}
use Rattle.gx_syntax_show.specs.ScriptLines.{lines_of_script}

-- their tokens spell it too
abbrev pub ShownScriptSpellsIt : Type 0
ShownScriptSpellsIt = (ts : List Terminal) (ss : List Stmt) → SpellsScript ts ss → SpellsScript (terminals_of_lines (lines_of_script ss)) ss

-- they have no more tokens
abbrev pub ShownScriptIsShortest : Type 0
ShownScriptIsShortest = (ts : List Terminal) (ss : List Stmt) → SpellsScript ts ss → length (terminals_of_lines (lines_of_script ss)) ≤ length ts

-- no statement has too many tokens, if none had
abbrev pub ShownScriptIsWithinLimit : Type 0
ShownScriptIsWithinLimit = (ts : List Terminal) (ss : List Stmt) → SpellsScript ts ss → IsShort ts → IsShort (terminals_of_lines (lines_of_script ss))

-- they may be in a text, if those tokens may
abbrev pub ShownScriptHasValidTokens : Type 0
ShownScriptHasValidTokens = (ts : List Terminal) (ss : List Stmt) → SpellsScript ts ss → AreValidTerminals ts → AreValidLines (lines_of_script ss)
