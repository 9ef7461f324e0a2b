-- Parsing goes on from the state to the result for all tokens.
use Rattle.std.proofs.Common.{◌≡◌, length}
use Rattle.gx_syntax_exprs.specs.PrecedenceParser.{parse_from}
use Rattle.gx_syntax_exprs.specs.Expressions.{expression}
use Rattle.gx_syntax_exprs.proofs.cursor.Cursor.expression.Given as goal

abbrev pub invariant-loop-stack : goal.invariant-loop-stack
invariant-loop-stack l = parse_from l.state l.stack l.self ≡ expression l.fn.self

abbrev pub decreases-loop-stack : goal.decreases-loop-stack
decreases-loop-stack l = length l.self
