-- The numbers among the values of a scope.
use Rattle.std.specs.Prelude.{ℕ, ℤ, Option, None, Some, slice_get}
use Rattle.gx_rows.specs.declared.value.Value.{Value}
use Rattle.gx_rows.specs.declared.value.Value.TheVariants as value
use Rattle.gx_expr.specs.Evaluation.{ScopeValues}
use Rattle.gx_expr.specs.declared.side.Side.{Side}

-- the number of a value, if there is one and it is a number
abbrev pub number_in : Option Value → Option ℤ
number_in (Some (value.Int z)) = Some z
number_in _ = None

-- the number of a column, if the scope has the column and it is a number
abbrev pub number_at : ScopeValues → Side → ℕ → Option ℤ
number_at s side i = number_in (slice_get (s.columns side) i)
