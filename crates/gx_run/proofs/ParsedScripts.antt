-- A script that was parsed may be checked.
use Rattle.std.proofs.Common.{◌≡◌, ℕ, List, All}
use Rattle.gx_syntax.specs.Meanings.{HasOneMeaning, meaning_of}
use Rattle.gx_syntax.specs.ParsedBounds.{SpellsBoundedScripts}
use Rattle.gx_syntax.specs.Texts.{script}
use Rattle.gx_syntax_tokens.specs.Lexing.{tokens_of}
use Rattle.gx_syntax_tree.specs.declared.stmt.Stmt.{Stmt}
use Rattle.gx_types.specs.ScriptTyping.{BoundedAreTypable}
use Rattle.gx_types_stmts.specs.StmtBounds.{IsTypable}

pub parsed_may_be_checked : (text : List ℕ) (stmts : List Stmt) → HasOneMeaning → SpellsBoundedScripts → BoundedAreTypable
    → script stmts ≡ meaning_of text → All IsTypable stmts
parsed_may_be_checked text stmts one bounded typable means =
    typable stmts (bounded text stmts ((one (tokens_of text) (script stmts)).1 means))
