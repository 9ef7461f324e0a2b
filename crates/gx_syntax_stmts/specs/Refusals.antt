-- What `parse_script` returns: the script that the tokens spell, or the first refused token.
use Rattle.std.specs.Prelude.{◌≡◌, ℕ, ◌≤◌, Result, Ok, Err, List, length, take, drop}
use Rattle.gx_syntax_tokens.specs.Terminals.{Terminal}
use Rattle.gx_syntax_exprs.specs.Combinators.{IsRefused, IsViablePrefix, NoWordContinues}
use Rattle.gx_syntax_tree.specs.declared.script.Script.{Script}
use Rattle.gx_syntax_tree.specs.declared.stmt.Stmt.{Stmt}
use Rattle.gx_syntax_stmts.specs.Forms.{SpellsScript, script}
use Rattle.gx_syntax_stmts.specs.declared.grammar_stop.GrammarStop.{GrammarStop}
use Rattle.gx_syntax_stmts.specs.declared.grammar_stop.GrammarStop.TheVariants as stops

-- the token after the first n, or the end, is refused: these begin some script, and no script goes
-- on with it
pub record IsRefusedAt (ts : List Terminal) (n : ℕ) : Type 0 where
  pub within : n ≤ length ts
  pub begins : IsViablePrefix SpellsScript (take n ts)
  pub none : NoWordContinues SpellsScript (take n ts) (drop n ts)

-- the result is the script that the tokens spell, or says where they are refused
abbrev pub ParsesScript : List Terminal → Result Script GrammarStop → Type 0
ParsesScript ts (Ok script) = SpellsScript ts script.statements
ParsesScript ts (Err (stops.At n)) = IsRefusedAt ts n
ParsesScript ts (Err stops.NoMemory) = Unit {0}

-- the result is this script, unless memory ran out
abbrev pub IsScript : List Stmt → Result Script GrammarStop → Type 0
IsScript s (Ok script) = script.statements ≡ s
IsScript s (Err (stops.At n)) = ⊥
IsScript s (Err stops.NoMemory) = Unit {0}

-- tokens spell no more than one script
abbrev pub ScriptsAreUnique : Type 0
ScriptsAreUnique =
    (ts : List Terminal) (s u : List Stmt) → SpellsScript ts s → SpellsScript ts u → s ≡ u

-- the result of the parser of scripts: the tokens spell the script; or the consumed ones begin some
-- script, with which the next one, or the end, does not go on
abbrev pub IsScriptOutcome : List Terminal → Result (List Stmt × List Terminal) (List Terminal)
    → Type 0
IsScriptOutcome ts (Ok parsed) = SpellsScript ts parsed.0
IsScriptOutcome ts (Err rest) = IsRefused SpellsScript ts rest

-- each list of tokens is parsed so
abbrev pub ScriptsAreParsed : Type 0
ScriptsAreParsed = (ts : List Terminal) → IsScriptOutcome ts (script ts)
