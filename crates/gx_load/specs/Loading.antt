-- The rows of a data file, or the first position that is refused.
use Rattle.std.specs.Prelude.{ℕ, ℤ, pos, ◌+◌, ◌==◌, if◌then◌else◌, nat_lt, List, [], ◌∷◌, ◌++◌, length, map, codes, slice_get, slice_index_or, Option, None, ok_or, Result, Ok, Err}
use Rattle.csv.specs.Reading.{default_config, records, strip_bom}
use Rattle.gx_rows.specs.Columns.{Column, names_of, position_of}
use Rattle.gx_rows.specs.Results.{◌>>=◌, try_cons}
use Rattle.gx_rows.specs.declared.value.Value.{Value}
use Rattle.gx_rows.specs.declared.value.ValueKind.{ValueKind}
use Rattle.gx_rows.specs.declared.vid.Vid.{Vid}
use Rattle.gx_load.specs.Cells.{trim, int_of}
use Rattle.gx_load.specs.CellValues.{cell_value}
use Rattle.gx_load.specs.declared.load_stop.CellKind.{CellKind}
use Rattle.gx_load.specs.declared.load_stop.CellKind.TheVariants as cell_kind
use Rattle.gx_load.specs.declared.load_stop.LoadStop.{LoadStop}
use Rattle.gx_load.specs.declared.load_stop.LoadStop.TheVariants as load_stop
use Rattle.gx_load.specs.declared.load_stop.RowStop.{RowStop}
use Rattle.gx_load.specs.declared.load_stop.RowStop.TheVariants as row_stop

-- a row of a data file: its two keys, and its values; a row of one key has 0 for the second
abbrev pub LoadedRow : Type 0
LoadedRow = Vid × Vid × List Value

-- the most rows of a file
abbrev pub MOST_ROWS : ℕ
MOST_ROWS = 500000

-- the rows of these records or lines, which are numbered from this row on and read one by one; a
-- file that has more rows than it may is refused before the first of these is read
unfoldable pub rows_from : {A : Type 0} → (ℕ → A → Result LoadedRow LoadStop) → ℕ → List A → Result (List LoadedRow) LoadStop
rows_from row_of_item row [] = Ok []
rows_from row_of_item row (item ∷ items) =
    if nat_lt MOST_ROWS row then Err load_stop.TooManyRows
    else try_cons (row_of_item row item) (rows_from row_of_item (row + 1) items)

-- the names of the key columns: `id` of a vertex, `src` and `dst` of an edge
abbrev pub key_names : ℕ → List (List ℕ)
key_names keys = if keys == 1 then codes "id" ∷ [] else codes "src" ∷ codes "dst" ∷ []

-- the name of the column of a refused position, the key columns first, if the position is a
-- column's
abbrev pub column_name_of : ℕ → List Column → RowStop → Option (List ℕ)
column_name_of keys columns (row_stop.Header column) =
    slice_get (key_names keys ++ names_of columns) column
column_name_of keys columns (row_stop.Shape row) = None
column_name_of keys columns (row_stop.Cell row column kind) =
    slice_get (key_names keys ++ names_of columns) column
column_name_of keys columns (row_stop.Line line) = None

-- the position of a column in the header, which must have its name; blanks around header fields do
-- not count
abbrev pub column_position : ℕ → List ℕ → List (List ℕ) → Result ℕ LoadStop
column_position column name header =
    ok_or (position_of name (map trim header)) (load_stop.Data (row_stop.Header column))

-- the positions of these columns, which are numbered from this one on
unfoldable pub positions_from : ℕ → List (List ℕ) → List (List ℕ) → Result (List ℕ) LoadStop
positions_from column [] header = Ok []
positions_from column (name ∷ names) header =
    try_cons (column_position column name header) (positions_from (column + 1) names header)

-- the cell of a column; the positions are those of all columns
abbrev pub cell_at : ℕ → List ℕ → List (List ℕ) → List ℕ
cell_at column positions fields = slice_index_or fields (slice_index_or positions column 0) []

-- the key in this column of a row, which must be a whole number
abbrev pub key_at : ℕ → ℕ → List ℕ → Result ℤ LoadStop
key_at row column cell =
    ok_or (int_of cell) (load_stop.Data (row_stop.Cell row column cell_kind.NotInt))

-- what was read in a cell, or the cell's position with what it was refused as
abbrev pub cell_result : {A : Type 0} → ℕ → ℕ → Result A CellKind → Result A LoadStop
cell_result row column (Ok x) = Ok x
cell_result row column (Err refused) = Err (load_stop.Data (row_stop.Cell row column refused))

-- the value of this kind in a cell of a row
abbrev pub value_at : ℕ → ℕ → ValueKind → List ℕ → Result Value LoadStop
value_at row column kind cell = cell_result row column (cell_value kind cell)

-- the values of a row whose columns have these kinds and are numbered from this one on
unfoldable pub values_from : ℕ → ℕ → List ValueKind → List ℕ → List (List ℕ) → Result (List Value) LoadStop
values_from row column [] positions fields = Ok []
values_from row column (kind ∷ kinds) positions fields =
    try_cons (value_at row column kind (cell_at column positions fields))
    (values_from row (column + 1) kinds positions fields)

-- the keys and the values of a row, read in the order of its columns
abbrev pub cells_of : ℕ → List ValueKind → List ℕ → ℕ → List (List ℕ) → Result LoadedRow LoadStop
cells_of keys kinds positions row fields =
    key_at row 0 (cell_at 0 positions fields) >>= λ first.
    (if keys == 1 then Ok (pos 0) else key_at row 1 (cell_at 1 positions fields)) >>= λ second.
    values_from row keys kinds positions fields >>= λ values.
    Ok (record { 0 = first }, record { 0 = second }, values)

-- a row, which must have as many fields as the header
abbrev pub row_of : ℕ → List ValueKind → ℕ → List ℕ → ℕ → List (List ℕ) → Result LoadedRow LoadStop
row_of keys kinds width positions row fields =
    if length fields == width then cells_of keys kinds positions row fields else Err (load_stop.Data (row_stop.Shape row))

-- the rows of these records; the first record is the header
abbrev pub rows_of_records : ℕ → List Column → List (List (List ℕ)) → Result (List LoadedRow) LoadStop
rows_of_records keys columns [] = Err (load_stop.Data (row_stop.Header 0))
rows_of_records keys columns (header ∷ records) =
    positions_from 0 (key_names keys ++ names_of columns) header >>= λ positions.
    rows_from (row_of keys (map (λ c. c.1) columns) (length header) positions) 1 records

-- the rows of a data file; its records are those of `csv` after one byte order mark
abbrev pub rows_of_csv : ℕ → List Column → List ℕ → Result (List LoadedRow) LoadStop
rows_of_csv keys columns bytes =
    rows_of_records keys columns (records default_config (strip_bom bytes))
