-- How a row keeps its values.
use Rattle.std.specs.Prelude.{List}
use Rattle.gx_rows.specs.declared.row.Cells.{Cells}
use Rattle.gx_rows.specs.declared.row.Cells.TheVariants.{One, Two, Many}
use Rattle.gx_rows.specs.declared.value.Value.{Value}

-- the values, in order
abbrev pub values_of : Cells → List Value
values_of (One values) = values
values_of (Two values) = values
values_of (Many values) = values.items
