-- How tightly operators bind, from 1 to 7: `or`, `and`, `not`, comparisons, sums, products, the
-- sign. Operands that are not operations have level 8.
use Rattle.std.specs.Prelude.{ℕ, ◌≤◌}
use Rattle.std.proofs.Common.{lit≤}
use Rattle.gx_syntax_tree.specs.declared.expr.BinaryOp.{BinaryOp}
use Rattle.gx_syntax_tree.specs.declared.expr.BinaryOp.TheVariants as binary
use Rattle.gx_syntax_tree.specs.declared.expr.UnaryOp.{UnaryOp}
use Rattle.gx_syntax_tree.specs.declared.expr.UnaryOp.TheVariants as unary

-- the level of an operation
abbrev pub binary_precedence : BinaryOp → ℕ
binary_precedence binary.Or = 1
binary_precedence binary.And = 2
binary_precedence binary.Eq = 4
binary_precedence binary.Ne = 4
binary_precedence binary.Lt = 4
binary_precedence binary.Le = 4
binary_precedence binary.Gt = 4
binary_precedence binary.Ge = 4
binary_precedence binary.Add = 5
binary_precedence binary.Sub = 5
binary_precedence binary.Mul = 6
binary_precedence binary.Div = 6
binary_precedence binary.Rem = 6

-- the least level of the left operand: that of the operation, so that chains group to the left, and
-- more for comparisons, which do not chain
abbrev pub left_precedence : BinaryOp → ℕ
left_precedence binary.Or = 1
left_precedence binary.And = 2
left_precedence binary.Eq = 5
left_precedence binary.Ne = 5
left_precedence binary.Lt = 5
left_precedence binary.Le = 5
left_precedence binary.Gt = 5
left_precedence binary.Ge = 5
left_precedence binary.Add = 5
left_precedence binary.Sub = 5
left_precedence binary.Mul = 6
left_precedence binary.Div = 6
left_precedence binary.Rem = 6

-- the least level of the right operand
abbrev pub right_precedence : BinaryOp → ℕ
right_precedence binary.Or = 2
right_precedence binary.And = 3
right_precedence binary.Eq = 5
right_precedence binary.Ne = 5
right_precedence binary.Lt = 5
right_precedence binary.Le = 5
right_precedence binary.Gt = 5
right_precedence binary.Ge = 5
right_precedence binary.Add = 6
right_precedence binary.Sub = 6
right_precedence binary.Mul = 7
right_precedence binary.Div = 7
right_precedence binary.Rem = 7

-- the level of an operation with a prefix operator
abbrev pub unary_precedence : UnaryOp → ℕ
unary_precedence unary.Not = 3
unary_precedence unary.Neg = 7

-- the least level of the operand of a prefix operator
abbrev pub operand_precedence : UnaryOp → ℕ
operand_precedence unary.Not = 4
operand_precedence unary.Neg = 8

-- operands of level 8 may stand anywhere
pub left_precedence-at_most_8 : (o : BinaryOp) → left_precedence o ≤ 8
left_precedence-at_most_8 binary.Or = lit≤ tt
left_precedence-at_most_8 _ = lit≤ tt

pub right_precedence-at_most_8 : (o : BinaryOp) → right_precedence o ≤ 8
right_precedence-at_most_8 binary.Or = lit≤ tt
right_precedence-at_most_8 _ = lit≤ tt

pub operand_precedence-at_most_8 : (o : UnaryOp) → operand_precedence o ≤ 8
operand_precedence-at_most_8 unary.Not = lit≤ tt
operand_precedence-at_most_8 unary.Neg = lit≤ tt
