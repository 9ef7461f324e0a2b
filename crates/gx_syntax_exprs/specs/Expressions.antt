-- The parser of expressions, as crates above cite it: what it accepts is said in the words of the
-- grammar.
use Rattle.std.specs.Prelude.{Bool, true, false, not, ◌||◌, Option, Some, None, List, Result}
use Rattle.gx_syntax_tokens.specs.Terminals.{Terminal, is_symbol}
use Rattle.gx_syntax_tokens.specs.declared.symbol.Symbol.TheVariants as symbols
use Rattle.gx_syntax_exprs.specs.Combinators.{Starts}
use Rattle.gx_syntax_exprs.specs.Grammar.{Spells}
use Rattle.gx_syntax_exprs.specs.Operators.{operator}
use Rattle.gx_syntax_exprs.specs.PrecedenceParser.{parse_first}
use Rattle.gx_syntax_tree.specs.declared.expr.BinaryOp.{BinaryOp}
use Rattle.gx_syntax_tree.specs.declared.expr.Expr.{Expr}

-- the longest expression that tokens begin with, and the rest; or the tokens from the refused one
-- on
unfoldable pub expression : List Terminal → Result (Expr × List Terminal) (List Terminal)
expression ts = parse_first ts

abbrev pub is_operator : Option BinaryOp → Bool
is_operator None = false
is_operator (Some o) = true

-- whether an expression may go on with a token: an operator, a `.` or a `(`
abbrev pub goes_on : Terminal → Bool
goes_on t = is_operator (operator t) || (is_symbol symbols.Dot t || is_symbol symbols.OpenParen t)

-- an expression begins with no `)`, so that an empty list of expressions ends where it begins
abbrev pub ExpressionsOpen : Type 0
ExpressionsOpen = (w : List Terminal) (x : Expr) → Spells 1 w x → Starts (λ t. not (is_symbol symbols.CloseParen t)) w
