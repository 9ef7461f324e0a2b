-- Check 6: rows of constants.
use Rattle.std.specs.Prelude.{◌≡◌, pos, if◌then◌else◌, nat_eq, Result, Ok, List, [], ◌∷◌, length}
use Rattle.std.specs.Prelude.{map, codes, refl}
use Rattle.std.specs.Cmp.Lexicographic.{pointwise}
use Rattle.gx_rows.specs.Columns.{Column}
use Rattle.gx_rows.specs.declared.value.Value.{Value}
use Rattle.gx_rows.specs.declared.value.Value.TheVariants as value
use Rattle.gx_rows.specs.declared.value.ValueKind.{ValueKind}
use Rattle.gx_rows.specs.declared.value.ValueKind.TheVariants as kind
use Rattle.gx_syntax_tree.specs.declared.constant.ColumnConst.{ColumnConst}
use Rattle.gx_syntax_tree.specs.declared.constant.Const.{Const}
use Rattle.gx_syntax_tree.specs.declared.constant.Const.TheVariants as written
use Rattle.gx_types_exprs.specs.declared.type_kind.TypeKind.TheVariants as type_kind
use Rattle.gx_types_clauses.specs.SameColumns.{is_same_kind, kinds_in}
use Rattle.gx_types_clauses.specs.StmtStops.{stmt_refusal}
use Rattle.gx_types_clauses.specs.declared.stmt_stop.StmtStop.{StmtStop}

abbrev pub const_kind : Const → ValueKind
const_kind (written.Number z) = kind.Int
const_kind (written.Quoted s) = kind.Text
const_kind (written.Truth b) = kind.Bool
const_kind written.NoIds = kind.Ids

abbrev pub const_value : Const → Value
const_value (written.Number z) = value.Int z
const_value (written.Quoted s) = value.Text s
const_value (written.Truth b) = value.Bool b
const_value written.NoIds = value.Ids []

-- as many constants as columns, each of its column's kind
abbrev pub constant_row : List Column → List Const → Result (List Value) StmtStop
constant_row columns row =
    if nat_eq (length row) (length columns) then
    (if pointwise is_same_kind (map const_kind row) (kinds_in columns) then Ok (map const_value row)
    else stmt_refusal type_kind.ConstKind)
    else stmt_refusal type_kind.ColumnsDiffer

-- constants with names
abbrev pub named_columns : List ColumnConst → List Column
named_columns row = map (λ c. (c.name, const_kind c.value)) row

abbrev pub named_values : List ColumnConst → List Value
named_values row = map (λ c. const_value c.value) row

-- the number of constants is tested before their kinds
numbers_fit :
    (constant_row ((codes "a", kind.Int) ∷ []) (written.Number (pos 7) ∷ [])
    ≡ Ok (value.Int (pos 7) ∷ []))
    × (constant_row ((codes "a", kind.Int) ∷ []) (written.NoIds ∷ [])
    ≡ stmt_refusal type_kind.ConstKind)
    × (constant_row ((codes "a", kind.Int) ∷ []) (written.NoIds ∷ written.NoIds ∷ [])
    ≡ stmt_refusal type_kind.ColumnsDiffer)
numbers_fit = (refl, refl, refl)
