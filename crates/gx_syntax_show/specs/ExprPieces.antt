-- The pieces of expressions: parentheses are only where the grammar needs them.
--
-- To add an operator, nothing changes here but `prefix_piece`, if it is a prefix operator; src/expression.rt writes it.
use Rattle.std.specs.Prelude.{ℕ, suc, ℤ, pos, negsuc, nat_le, if◌then◌else◌, List, [], ◌∷◌, ◌++◌, map, codes}
use Rattle.gx_syntax_tokens.specs.Terminals.{Terminal, word, number, quoted, symbol}
use Rattle.gx_syntax_tokens.specs.SpacedText.{Piece, token, sign, function, terminal}
use Rattle.gx_syntax_tokens.specs.declared.symbol.Symbol.TheVariants as symbols
use Rattle.gx_syntax_exprs.specs.Operators.{infix_token, not_word}
use Rattle.gx_syntax_tree.specs.Precedence.{binary_precedence, left_precedence, right_precedence, unary_precedence, operand_precedence}
use Rattle.gx_syntax_tree.specs.declared.expr.Expr.{Expr}
use Rattle.gx_syntax_tree.specs.declared.expr.Expr.TheOpen.{Expr-F}
use Rattle.gx_syntax_tree.specs.declared.expr.Expr.TheOpen as layer
use Rattle.gx_syntax_tree.specs.declared.expr.Expr.TheFolds.{fold-Expr}
use Rattle.gx_syntax_tree.specs.declared.expr.UnaryOp.{UnaryOp}
use Rattle.gx_syntax_tree.specs.declared.expr.UnaryOp.TheVariants as unary
use Rattle.gx_syntax_show.specs.ListPieces.{word_pieces, paren_list_pieces}
use Rattle.gx_syntax_show.specs.Words.{truth_word}

-- a number without its sign
abbrev pub magnitude : ℤ → ℕ
magnitude (pos n) = n
magnitude (negsuc n) = suc n

-- pieces of level m as an operand of level k or more: in parentheses if m is less
abbrev pub operand_pieces : ℕ → ℕ → List Piece → List Piece
operand_pieces k m ps = if nat_le k m then ps else token (symbol symbols.OpenParen) ∷ ps ++ token (symbol symbols.CloseParen) ∷ []

-- a prefix operator
abbrev pub prefix_piece : UnaryOp → Piece
prefix_piece unary.Not = token (word not_word)
prefix_piece unary.Neg = sign

-- an expression as an operand of level k or more, by the pieces of its parts at each level
abbrev pub expr_layer_pieces : Expr-F (ℕ → List Piece) → ℕ → List Piece
expr_layer_pieces (layer.Number z) k = token (number (magnitude z)) ∷ []
expr_layer_pieces (layer.Quoted s) k = token (quoted s) ∷ []
expr_layer_pieces (layer.Truth b) k = word_pieces (truth_word b)
expr_layer_pieces layer.Matched k = word_pieces (codes "matched")
expr_layer_pieces (layer.Column side name) k = token (word side) ∷ token (symbol symbols.Dot) ∷ token (word name) ∷ []
expr_layer_pieces (layer.Call name xs) k = function name ∷ paren_list_pieces (λ x. x 1) xs
expr_layer_pieces (layer.Unary o a) k = operand_pieces k (unary_precedence o) (prefix_piece o ∷ a (operand_precedence o))
expr_layer_pieces (layer.Binary o a b) k = operand_pieces k (binary_precedence o) (a (left_precedence o) ++ token (infix_token o) ∷ b (right_precedence o))

-- an expression as an operand of level k or more; a whole expression has level 1
abbrev pub expr_pieces : ℕ → Expr → List Piece
expr_pieces k x = fold-Expr (ℕ → List Piece) expr_layer_pieces x k

-- its tokens
abbrev pub expr_terminals : ℕ → Expr → List Terminal
expr_terminals k x = map terminal (expr_pieces k x)
