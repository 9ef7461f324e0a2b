-- The kinds of values.
use Rattle.gx_rows.specs.declared.value.Value.{Value}
use Rattle.gx_rows.specs.declared.value.Value.TheVariants as value
use Rattle.gx_rows.specs.declared.value.ValueKind.{ValueKind}
use Rattle.gx_rows.specs.declared.value.ValueKind.TheVariants as kind

-- the kind of a value
abbrev pub kind_of : Value → ValueKind
kind_of (value.Int number) = kind.Int
kind_of (value.Text bytes) = kind.Text
kind_of (value.Bool truth) = kind.Bool
kind_of (value.Ids ids) = kind.Ids
