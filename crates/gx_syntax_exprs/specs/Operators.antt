-- The tokens of the operators, from the loosest to the tightest: `or`, `and`, `not`, comparisons,
-- sums, products, the sign.
--
-- To add an infix operator, change `infix_token`, the function that finds it (`symbol_operator` or
-- `word_operator`, here and in src/operators.rt) with its case in proofs/Levels.antt, and its levels
-- in gx_syntax_tree.
use Rattle.std.specs.Prelude.{ℕ, Option, Some, None, if◌then◌else◌, codes, bytes_eq, List}
use Rattle.gx_syntax_tokens.specs.Terminals.{Terminal, word, number, quoted, symbol}
use Rattle.gx_syntax_tokens.specs.declared.symbol.Symbol.{Symbol}
use Rattle.gx_syntax_tokens.specs.declared.symbol.Symbol.TheVariants as symbols
use Rattle.gx_syntax_tree.specs.declared.expr.BinaryOp.{BinaryOp}
use Rattle.gx_syntax_tree.specs.declared.expr.BinaryOp.TheVariants as binary
use Rattle.gx_syntax_tree.specs.declared.expr.UnaryOp.{UnaryOp}
use Rattle.gx_syntax_tree.specs.declared.expr.UnaryOp.TheVariants as unary

-- the word of the operator `not`
abbrev pub not_word : List ℕ
not_word = codes "not"

-- the token of an infix operator
abbrev pub infix_token : BinaryOp → Terminal
infix_token binary.Or = word (codes "or")
infix_token binary.And = word (codes "and")
infix_token binary.Eq = symbol symbols.Equal
infix_token binary.Ne = symbol symbols.NotEqual
infix_token binary.Lt = symbol symbols.Less
infix_token binary.Le = symbol symbols.LessEqual
infix_token binary.Gt = symbol symbols.Greater
infix_token binary.Ge = symbol symbols.GreaterEqual
infix_token binary.Add = symbol symbols.Plus
infix_token binary.Sub = symbol symbols.Minus
infix_token binary.Mul = symbol symbols.Star
infix_token binary.Div = symbol symbols.Slash
infix_token binary.Rem = symbol symbols.Percent

-- the token of a prefix operator
abbrev pub prefix_token : UnaryOp → Terminal
prefix_token unary.Not = word not_word
prefix_token unary.Neg = symbol symbols.Minus

-- the infix operator that a symbol is
abbrev pub symbol_operator : Symbol → Option BinaryOp
symbol_operator symbols.Equal = Some binary.Eq
symbol_operator symbols.NotEqual = Some binary.Ne
symbol_operator symbols.Less = Some binary.Lt
symbol_operator symbols.LessEqual = Some binary.Le
symbol_operator symbols.Greater = Some binary.Gt
symbol_operator symbols.GreaterEqual = Some binary.Ge
symbol_operator symbols.Plus = Some binary.Add
symbol_operator symbols.Minus = Some binary.Sub
symbol_operator symbols.Star = Some binary.Mul
symbol_operator symbols.Slash = Some binary.Div
symbol_operator symbols.Percent = Some binary.Rem
symbol_operator _ = None

-- the infix operator that a word is
abbrev pub word_operator : List ℕ → Option BinaryOp
word_operator w = if bytes_eq w (codes "or") then Some binary.Or else (if bytes_eq w (codes "and") then Some binary.And else None)

-- the infix operator that a token is
abbrev pub operator : Terminal → Option BinaryOp
operator (word w) = word_operator w
operator (number n) = None
operator (quoted s) = None
operator (symbol s) = symbol_operator s
