-- Which expressions are well typed, and of which kind their values are.
--
-- To add an operator or a function, add its line here and in specs/Evaluation.antt.
use Rattle.std.specs.Prelude.{◌≡◌, ℕ, Bool, true, false, if◌then◌else◌, Option, None, Some, List, [], ◌∷◌, slice_get}
use Rattle.std.proofs.Common.{ap, ◌∙◌}
use Rattle.std.specs.Option.{option_and_then, option_map}
use Rattle.gx_rows.specs.Kinds.{kind_of}
use Rattle.gx_rows.specs.declared.value.ValueKind.{ValueKind}
use Rattle.gx_rows.specs.declared.value.ValueKind.TheVariants as kind
use Rattle.gx_expr.specs.declared.expr.Expr.{Expr, roll-Expr, map-Expr}
use Rattle.gx_expr.specs.declared.expr.Expr.TheOpen.{Expr-F}
use Rattle.gx_expr.specs.declared.expr.Expr.TheOpen as layer
use Rattle.gx_expr.specs.declared.expr.Expr.TheFolds.{fold-Expr, fold-roll-Expr}
use Rattle.gx_expr.specs.declared.operators.BinaryOp.{BinaryOp}
use Rattle.gx_expr.specs.declared.operators.BinaryOp.TheVariants as binary
use Rattle.gx_expr.specs.declared.operators.Function.{Function}
use Rattle.gx_expr.specs.declared.operators.Function.TheVariants as function
use Rattle.gx_expr.specs.declared.operators.UnaryOp.{UnaryOp}
use Rattle.gx_expr.specs.declared.operators.UnaryOp.TheVariants as unary
use Rattle.gx_expr.specs.declared.side.Side.{Side}
use Rattle.gx_expr.specs.declared.side.Side.TheVariants as side

-- what an expression may read
pub record ScopeType : Type 0 where
  -- the kinds of the columns of each side; none if the side cannot be read
  pub columns : Side → List ValueKind
  -- the sides whose identifier can be read
  pub has_id : Side → Bool
  -- whether `matched` can be read
  pub has_matched : Bool

-- the kind of an operation, from the kind of its operand; none if the operator does not take it
abbrev pub kind_of_unary : UnaryOp → ValueKind → Option ValueKind
kind_of_unary unary.Neg kind.Int = Some kind.Int
kind_of_unary unary.Neg _ = None
kind_of_unary unary.Not kind.Bool = Some kind.Bool
kind_of_unary unary.Not _ = None

-- two ints, and the kind that comes of them
abbrev pub of_ints : ValueKind → ValueKind → ValueKind → Option ValueKind
of_ints kind.Int kind.Int given = Some given
of_ints _ _ given = None

-- two truth values
abbrev pub of_bools : ValueKind → ValueKind → ValueKind → Option ValueKind
of_bools kind.Bool kind.Bool given = Some given
of_bools _ _ given = None

-- two of one kind
abbrev pub of_alike : ValueKind → ValueKind → ValueKind → Option ValueKind
of_alike kind.Int kind.Int given = Some given
of_alike kind.Text kind.Text given = Some given
of_alike kind.Bool kind.Bool given = Some given
of_alike kind.Ids kind.Ids given = Some given
of_alike _ _ given = None

-- the kind of an operation, from the kinds of its operands; none if the operator does not take them
abbrev pub kind_of_binary : BinaryOp → ValueKind → ValueKind → Option ValueKind
kind_of_binary binary.Add a b = of_ints a b kind.Int
kind_of_binary binary.Sub a b = of_ints a b kind.Int
kind_of_binary binary.Mul a b = of_ints a b kind.Int
kind_of_binary binary.Div a b = of_ints a b kind.Int
kind_of_binary binary.Rem a b = of_ints a b kind.Int
kind_of_binary binary.Eq a b = of_alike a b kind.Bool
kind_of_binary binary.Ne a b = of_alike a b kind.Bool
kind_of_binary binary.Lt a b = of_alike a b kind.Bool
kind_of_binary binary.Le a b = of_alike a b kind.Bool
kind_of_binary binary.Gt a b = of_alike a b kind.Bool
kind_of_binary binary.Ge a b = of_alike a b kind.Bool
kind_of_binary binary.And a b = of_bools a b kind.Bool
kind_of_binary binary.Or a b = of_bools a b kind.Bool

-- the kind of a call, from the kinds of its arguments; none if the function does not take them
abbrev pub kind_of_call : Function → List ValueKind → Option ValueKind
kind_of_call function.If (kind.Bool ∷ a ∷ b ∷ []) = of_alike a b a
kind_of_call function.If _ = None
kind_of_call function.Min (a ∷ b ∷ []) = of_alike a b a
kind_of_call function.Min _ = None
kind_of_call function.Max (a ∷ b ∷ []) = of_alike a b a
kind_of_call function.Max _ = None
kind_of_call function.Abs (kind.Int ∷ []) = Some kind.Int
kind_of_call function.Abs _ = None
kind_of_call function.Len (kind.Text ∷ []) = Some kind.Int
kind_of_call function.Len (kind.Ids ∷ []) = Some kind.Int
kind_of_call function.Len _ = None
kind_of_call function.Concat (kind.Text ∷ kind.Text ∷ []) = Some kind.Text
kind_of_call function.Concat _ = None
kind_of_call function.Text (kind.Int ∷ []) = Some kind.Text
kind_of_call function.Text _ = None
kind_of_call function.Ids [] = Some kind.Ids
kind_of_call function.Ids _ = None
kind_of_call function.Add (kind.Ids ∷ kind.Int ∷ []) = Some kind.Ids
kind_of_call function.Add _ = None
kind_of_call function.Has (kind.Ids ∷ kind.Int ∷ []) = Some kind.Bool
kind_of_call function.Has _ = None

-- the items of a list, if each is there
abbrev pub all_some : {A : Type 0} → List (Option A) → Option (List A)
all_some [] = Some []
all_some (Some x ∷ rest) = option_map (λ xs. x ∷ xs) (all_some rest)
all_some (None ∷ rest) = None

-- the kind of an expression, from the kinds of its operands
abbrev pub kind_of_layer : ScopeType → Expr-F (Option ValueKind) → Option ValueKind
kind_of_layer t (layer.Const n v) = Some (kind_of v)
kind_of_layer t (layer.Column n s i) = slice_get (t.columns s) i
kind_of_layer t (layer.Id n s) = if t.has_id s then Some kind.Int else None
kind_of_layer t (layer.Matched n) = if t.has_matched then Some kind.Bool else None
kind_of_layer t (layer.Unary n o a) = option_and_then (kind_of_unary o) a
kind_of_layer t (layer.Binary n o a b) = option_and_then (λ x. option_and_then (kind_of_binary o x) b) a
kind_of_layer t (layer.Call n f xs) = option_and_then (kind_of_call f) (all_some xs)

-- the kind of a well-typed expression; none if it is not well typed
abbrev pub kind_of_expr : ScopeType → Expr → Option ValueKind
kind_of_expr t e = fold-Expr (Option ValueKind) (kind_of_layer t) e

-- the kind of an expression, by those of its operands
pub kind_of_expr-roll : (t : ScopeType) (x : Expr-F Expr)
    → kind_of_expr t (roll-Expr x) ≡ kind_of_layer t (map-Expr Expr (Option ValueKind) (kind_of_expr t) x)
kind_of_expr-roll t x = fold-roll-Expr (Option ValueKind) (kind_of_layer t) x

-- if vertices have a number and a text, `-v.0` is a number and `-v.1` is not well typed
vertex_columns : Side → List ValueKind
vertex_columns side.Vertex = kind.Int ∷ kind.Text ∷ []
vertex_columns _ = []

is_vertex : Side → Bool
is_vertex side.Vertex = true
is_vertex _ = false

vertex_type : ScopeType
vertex_type = record { columns = vertex_columns; has_id = is_vertex; has_matched = false }

negated : ℕ → Expr
negated i = roll-Expr (layer.Unary 0 unary.Neg (roll-Expr (layer.Column 1 side.Vertex i)))

negated-kind : (i : ℕ) → kind_of_expr vertex_type (negated i) ≡ option_and_then (kind_of_unary unary.Neg) (slice_get (vertex_columns side.Vertex) i)
unfolding negated vertex_type
negated-kind i =
    let column = layer.Column 1 side.Vertex i in
    kind_of_expr-roll vertex_type (layer.Unary 0 unary.Neg (roll-Expr column))
    ∙ ap (option_and_then (kind_of_unary unary.Neg)) (kind_of_expr-roll vertex_type column)

negated-kinds : (kind_of_expr vertex_type (negated 0) ≡ Some kind.Int) × (kind_of_expr vertex_type (negated 1) ≡ None)
unfolding vertex_columns
negated-kinds = (negated-kind 0, negated-kind 1)
