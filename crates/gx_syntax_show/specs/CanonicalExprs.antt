-- What holds of the pieces of an expression, compared with any tokens that spell it.
use Rattle.std.specs.Prelude.{◌≤◌, List, length}
use Rattle.gx_syntax_tokens.specs.Terminals.{Terminal}
use Rattle.gx_syntax_tokens.specs.SpacedText.{AreValid, AreValidTerminals}
use Rattle.gx_syntax_exprs.specs.Grammar.{Spells}
use Rattle.gx_syntax_tree.specs.declared.expr.Expr.{Expr}
use Rattle.gx_syntax_show.specs.ExprPieces.{expr_pieces, expr_terminals}

-- they spell it too
abbrev pub ShownExprSpellsIt : Type 0
ShownExprSpellsIt = (ts : List Terminal) (x : Expr) → Spells 1 ts x → Spells 1 (expr_terminals 1 x) x

-- they are no more
abbrev pub ShownExprIsShortest : Type 0
ShownExprIsShortest = (ts : List Terminal) (x : Expr) → Spells 1 ts x → length (expr_terminals 1 x) ≤ length ts

-- they may be in a text, if those tokens may
abbrev pub ShownExprHasValidTokens : Type 0
ShownExprHasValidTokens = (ts : List Terminal) (x : Expr) → Spells 1 ts x → AreValidTerminals ts → AreValid (expr_pieces 1 x)
