-- Columns that are declared.
use Rattle.std.specs.Prelude.{ℕ, List, [], ◌∷◌, map}
use Rattle.gx_rows.specs.Columns.{Column}
use Rattle.gx_rows.specs.declared.value.ValueKind.{ValueKind}
use Rattle.gx_syntax_tree.specs.declared.parts.ColumnDecl.{ColumnDecl}

abbrev pub declared_columns : List ColumnDecl → List Column
declared_columns columns = map (λ c. (c.name, c.kind)) columns

abbrev pub lone_column : List ℕ → ValueKind → List Column
lone_column name k = (name, k) ∷ []
