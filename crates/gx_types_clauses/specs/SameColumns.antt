-- Check 8: columns of one list that have to be those of another.
use Rattle.std.specs.Prelude.{◌≡◌, Bool, true, false, ◌&&◌, if◌then◌else◌, Result, Ok, List, []}
use Rattle.std.specs.Prelude.{◌∷◌, map, codes, refl}
use Rattle.std.specs.Cmp.Lexicographic.{pointwise}
use Rattle.std.specs.Str.{bytes_eq}
use Rattle.gx_rows.specs.Columns.{Column}
use Rattle.gx_rows.specs.declared.value.ValueKind.{ValueKind}
use Rattle.gx_rows.specs.declared.value.ValueKind.TheVariants as kind
use Rattle.gx_types_exprs.specs.declared.type_kind.TypeKind.TheVariants as type_kind
use Rattle.gx_types_clauses.specs.StmtStops.{stmt_refusal}
use Rattle.gx_types_clauses.specs.declared.stmt_stop.StmtStop.{StmtStop}

abbrev pub is_same_kind : ValueKind → ValueKind → Bool
is_same_kind kind.Int kind.Int = true
is_same_kind kind.Text kind.Text = true
is_same_kind kind.Bool kind.Bool = true
is_same_kind kind.Ids kind.Ids = true
is_same_kind _ _ = false

abbrev pub is_same_column : Column → Column → Bool
is_same_column c d = bytes_eq c.0 d.0 && is_same_kind c.1 d.1

abbrev pub kinds_in : List Column → List ValueKind
kinds_in columns = map (λ c. c.1) columns

-- equal names and kinds, in order
abbrev pub checked_same_columns : List Column → List Column → Result (Unit {0}) StmtStop
checked_same_columns xs ys =
    if pointwise is_same_column xs ys then Ok tt else stmt_refusal type_kind.ColumnsDiffer

-- equal kinds in order, under any names
abbrev pub checked_same_kinds : List Column → List Column → Result (Unit {0}) StmtStop
checked_same_kinds xs ys =
    if pointwise is_same_kind (kinds_in xs) (kinds_in ys) then Ok tt
    else stmt_refusal type_kind.ColumnsDiffer

-- `(a: int)` and `(b: int)` have the same kinds and not the same columns
two_columns : List Column × List Column
two_columns = ((codes "a", kind.Int) ∷ [], (codes "b", kind.Int) ∷ [])

columns-differ :
    (checked_same_columns two_columns.0 two_columns.1 ≡ stmt_refusal type_kind.ColumnsDiffer)
    × (checked_same_kinds two_columns.0 two_columns.1 ≡ Ok tt)
unfolding two_columns
columns-differ = (refl, refl)
