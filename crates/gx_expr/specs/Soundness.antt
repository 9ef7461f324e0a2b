-- What holds of each result: a well-typed expression has a value of its kind, and values within
-- bounds give a value within bounds. specs/ResultKinds.antt and specs/ResultBounds.antt prove it.
use Rattle.std.specs.Prelude.{◌≡◌, ℕ, true, Some, is_some, List, [], ◌∷◌, ◌++◌, flat_map, slice_get, All}
use Rattle.std.specs.Option.{option_map}
use Rattle.gx_rows.specs.Bounds.{IsBoundedValue}
use Rattle.gx_rows.specs.Kinds.{kind_of}
use Rattle.gx_rows.specs.declared.value.Value.{Value}
use Rattle.gx_rows.specs.declared.value.ValueKind.{ValueKind}
use Rattle.gx_expr.specs.Evaluation.{ScopeValues}
use Rattle.gx_expr.specs.Typing.{ScopeType, kind_of_expr}
use Rattle.gx_expr.specs.declared.expr.Expr.{Expr, roll-Expr, map-Expr}
use Rattle.gx_expr.specs.declared.expr.Expr.TheOpen.{Expr-F}
use Rattle.gx_expr.specs.declared.expr.Expr.TheOpen as layer
use Rattle.gx_expr.specs.declared.expr.Expr.TheFolds.{fold-Expr, fold-roll-Expr}
use Rattle.gx_expr.specs.declared.side.Side.{Side}

-- the scope has what its type says: each column with a value of its kind, and each identifier
pub record Suits (t : ScopeType) (s : ScopeValues) : Type 0 where
  pub columns : (side : Side) (i : ℕ) (k : ValueKind) → slice_get (t.columns side) i ≡ Some k → option_map kind_of (slice_get (s.columns side) i) ≡ Some k
  pub ids : (side : Side) → t.has_id side ≡ true → is_some (s.id side) ≡ true

-- each value of the scope is bounded
abbrev pub IsBoundedScope : ScopeValues → Type 0
IsBoundedScope s = (side : Side) (i : ℕ) (v : Value) → slice_get (s.columns side) i ≡ Some v → IsBoundedValue v

-- the constants of an expression, from those of its operands
abbrev pub constants_in_layer : Expr-F (List Value) → List Value
constants_in_layer (layer.Const n v) = v ∷ []
constants_in_layer (layer.Unary n o a) = a
constants_in_layer (layer.Binary n o a b) = a ++ b
constants_in_layer (layer.Call n f xs) = flat_map (λ x. x) xs
constants_in_layer _ = []

abbrev pub constants_in : Expr → List Value
constants_in e = fold-Expr (List Value) constants_in_layer e

pub constants_in-roll : (x : Expr-F Expr) → constants_in (roll-Expr x) ≡ constants_in_layer (map-Expr Expr (List Value) constants_in x)
constants_in-roll x = fold-roll-Expr (List Value) constants_in_layer x

-- ---- what clauses say of a result

abbrev pub HasItsKind : ScopeValues → Expr → Value → Type 0
HasItsKind s e v = (t : ScopeType) (k : ValueKind) → Suits t s → kind_of_expr t e ≡ Some k → kind_of v ≡ k

abbrev pub IsBoundedResult : ScopeValues → Expr → Value → Type 0
IsBoundedResult s e v = IsBoundedScope s → All IsBoundedValue (constants_in e) → IsBoundedValue v
