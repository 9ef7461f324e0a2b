-- What the words and operators of an expression stand for.
--
-- To add a function, add its line here and its arm in src/words.rt.
use Rattle.std.specs.Prelude.{◌≡◌, ℕ, if◌then◌else◌, Option, None, Some, List, codes, bytes_eq, refl}
use Rattle.gx_expr.specs.declared.operators.BinaryOp.{BinaryOp}
use Rattle.gx_expr.specs.declared.operators.BinaryOp.TheVariants as binary
use Rattle.gx_expr.specs.declared.operators.Function.{Function}
use Rattle.gx_expr.specs.declared.operators.Function.TheVariants as function
use Rattle.gx_expr.specs.declared.operators.UnaryOp.{UnaryOp}
use Rattle.gx_expr.specs.declared.operators.UnaryOp.TheVariants as unary
use Rattle.gx_expr.specs.declared.side.Side.{Side}
use Rattle.gx_expr.specs.declared.side.Side.TheVariants as side
use Rattle.gx_syntax_tree.specs.declared.expr.BinaryOp.{BinaryOp as WrittenBinary}
use Rattle.gx_syntax_tree.specs.declared.expr.BinaryOp.TheVariants as written_binary
use Rattle.gx_syntax_tree.specs.declared.expr.UnaryOp.{UnaryOp as WrittenUnary}
use Rattle.gx_syntax_tree.specs.declared.expr.UnaryOp.TheVariants as written_unary

-- the side that a word before a dot names
abbrev pub side_of_word : List ℕ → Option Side
side_of_word w =
    if bytes_eq w (codes "v") then Some side.Vertex
    else if bytes_eq w (codes "src") then Some side.Src
    else if bytes_eq w (codes "dst") then Some side.Dst
    else if bytes_eq w (codes "edge") then Some side.Edge
    else if bytes_eq w (codes "o") then Some side.Other
    else if bytes_eq w (codes "m") then Some side.Message
    else None

-- the function of a name
abbrev pub function_of_word : List ℕ → Option Function
function_of_word w =
    if bytes_eq w (codes "if") then Some function.If
    else if bytes_eq w (codes "min") then Some function.Min
    else if bytes_eq w (codes "max") then Some function.Max
    else if bytes_eq w (codes "abs") then Some function.Abs
    else if bytes_eq w (codes "len") then Some function.Len
    else if bytes_eq w (codes "concat") then Some function.Concat
    else if bytes_eq w (codes "text") then Some function.Text
    else if bytes_eq w (codes "ids") then Some function.Ids
    else if bytes_eq w (codes "add") then Some function.Add
    else if bytes_eq w (codes "has") then Some function.Has
    else None

-- how many arguments a function takes
abbrev pub arity_of : Function → ℕ
arity_of function.If = 3
arity_of function.Min = 2
arity_of function.Max = 2
arity_of function.Abs = 1
arity_of function.Len = 1
arity_of function.Concat = 2
arity_of function.Text = 1
arity_of function.Ids = 0
arity_of function.Add = 2
arity_of function.Has = 2

abbrev pub binary_of_written : WrittenBinary → BinaryOp
binary_of_written written_binary.Or = binary.Or
binary_of_written written_binary.And = binary.And
binary_of_written written_binary.Eq = binary.Eq
binary_of_written written_binary.Ne = binary.Ne
binary_of_written written_binary.Lt = binary.Lt
binary_of_written written_binary.Le = binary.Le
binary_of_written written_binary.Gt = binary.Gt
binary_of_written written_binary.Ge = binary.Ge
binary_of_written written_binary.Add = binary.Add
binary_of_written written_binary.Sub = binary.Sub
binary_of_written written_binary.Mul = binary.Mul
binary_of_written written_binary.Div = binary.Div
binary_of_written written_binary.Rem = binary.Rem

abbrev pub unary_of_written : WrittenUnary → UnaryOp
unary_of_written written_unary.Not = unary.Not
unary_of_written written_unary.Neg = unary.Neg

-- `o.a` reads the joined row; `max` is a function, and `mean` is none
words-mean :
    (side_of_word (codes "o") ≡ Some side.Other)
    × (function_of_word (codes "max") ≡ Some function.Max)
    × (function_of_word (codes "mean") ≡ None)
words-mean = (refl, refl, refl)
