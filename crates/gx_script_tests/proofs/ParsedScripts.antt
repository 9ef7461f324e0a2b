-- A script that was parsed may be checked.
use Rattle.std.proofs.Common.{◌≡◌, ℕ, List, Option, Some, Result, Ok, Err, All, sym}
use Rattle.std.specs.Prelude.{IfSome}
use Rattle.gx_syntax.specs.Meanings.{HasOneMeaning, meaning_of, meaning_of_result}
use Rattle.gx_syntax.specs.ParsedBounds.{SpellsBoundedScripts}
use Rattle.gx_syntax.specs.Texts.{script}
use Rattle.gx_syntax_tokens.specs.Lexing.{tokens_of}
use Rattle.gx_syntax_tree.specs.declared.script.Script.{Script}
use Rattle.gx_types.specs.ScriptTyping.{BoundedAreTypable}
use Rattle.gx_types_stmts.specs.StmtBounds.{IsTypable}

pub parsed-typable : (text : List ℕ) (s : Script) → HasOneMeaning → SpellsBoundedScripts → BoundedAreTypable
    → script s.statements ≡ meaning_of text → All IsTypable s.statements
parsed-typable text s one bounded typable means =
    typable s.statements (bounded text s.statements ((one (tokens_of text) (script s.statements)).1 means))
