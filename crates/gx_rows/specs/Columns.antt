-- The columns of a row type: names with kinds.
use Rattle.std.specs.Prelude.{ℕ, List, map, Option}
use Rattle.std.specs.Str.{bytes_eq}
use Rattle.std.specs.List.{IsDistinct, position_from}
use Rattle.gx_rows.specs.declared.value.ValueKind.{ValueKind}

-- a column as a clause sees it: the bytes of its name, and its kind
abbrev pub Column : Type 0
Column = List ℕ × ValueKind

-- the names of columns, in order
abbrev pub names_of : List Column → List (List ℕ)
names_of columns = map (λ c. c.0) columns

-- no two columns have one name
abbrev pub HasDistinctNames : List Column → Type 0
HasDistinctNames columns = IsDistinct bytes_eq (names_of columns)

-- the first position of a name
abbrev pub position_of : List ℕ → List (List ℕ) → Option ℕ
position_of name names = position_from (λ n. bytes_eq n name) 0 names
