-- Rows that fit their columns.
use Rattle.std.specs.Prelude.{◌≡◌, List, map}
use Rattle.gx_rows.specs.Bounds.{IsBoundedRow}
use Rattle.gx_rows.specs.Columns.{Column}
use Rattle.gx_rows.specs.Kinds.{kind_of}
use Rattle.gx_rows.specs.declared.value.Value.{Value}

-- the row has one value for each column, of the column's kind, and each value is within its bounds
pub record FitsColumns (columns : List Column) (values : List Value) : Type 0 where
  pub kinds : map kind_of values ≡ map (λ c. c.1) columns
  pub bounded : IsBoundedRow values
