-- The rows that a script loads from its data files, or the first refusal.
use Rattle.std.specs.Prelude.{◌≡◌, ℕ, ◌+◌, if◌then◌else◌, nat_lt, Bool, false, List, [], ◌∷◌, ◌++◌, length, codes, Option, None, Some, unwrap_or, ok_or, Result, Ok, Err, refl}
use Rattle.gx_rows.specs.Columns.{Column}
use Rattle.gx_rows.specs.Limits.{most_of}
use Rattle.gx_rows.specs.Results.{◌>>=◌}
use Rattle.gx_rows.specs.declared.limit_kind.LimitKind.{LimitKind}
use Rattle.gx_rows.specs.declared.limit_kind.LimitKind.TheVariants as limit_kind
use Rattle.gx_outside.specs.Contents.{Contents, bytes_under}
use Rattle.gx_load.specs.EdgeLists.{rows_of_edge_list}
use Rattle.gx_load.specs.Loading.{LoadedRow, column_name_of, rows_of_csv}
use Rattle.gx_load.specs.declared.load_stop.LoadStop.{LoadStop}
use Rattle.gx_load.specs.declared.load_stop.LoadStop.TheVariants as load_stop
use Rattle.gx_print.specs.declared.status.Status.{Status}
use Rattle.gx_print.specs.declared.status.Status.TheVariants as status
use Rattle.gx_types_stmts.specs.declared.checked_stmt.CheckedStmt.{CheckedStmt}
use Rattle.gx_types_stmts.specs.declared.typed_stmt.TypedStmt.{TypedStmt}
use Rattle.gx_types_stmts.specs.declared.typed_stmt.TypedStmt.TheVariants as stmts
use Rattle.gx_model.specs.Values.{LoadedRows}

-- ---- one file

-- the bytes of a file, which must be there and have at most as many as the limit
abbrev pub bytes_within : LimitKind → List ℕ → Contents → Result (List ℕ) Status
bytes_within kind name contents =
    ok_or (bytes_under name contents) (status.Source name) >>= λ bytes.
    if nat_lt (most_of kind) (length bytes) then Err (status.Limit kind) else Ok bytes

-- what a load statement reads: a CSV file with so many key columns and these columns, or an edge list
pub data DataFile : Type 0 where
  Csv : (file : List ℕ) (keys : ℕ) (columns : List Column) → DataFile
  EdgeList : (file : List ℕ) (oriented : Bool) → DataFile

abbrev pub file_name : DataFile → List ℕ
file_name (Csv file keys columns) = file
file_name (EdgeList file oriented) = file

-- the rows that its bytes spell
abbrev pub rows_in_file : DataFile → List ℕ → Result (List LoadedRow) LoadStop
rows_in_file (Csv file keys columns) bytes = rows_of_csv keys columns bytes
rows_in_file (EdgeList file oriented) bytes = rows_of_edge_list oriented bytes

-- the refusal of a file, with the name of the refused column, if the position is a column's
abbrev pub refusal_of_rows : DataFile → LoadStop → Status
refusal_of_rows (Csv file keys columns) (load_stop.Data stop) =
    status.Data (record { file = file; column = column_name_of keys columns stop; stop = stop })
refusal_of_rows (EdgeList file oriented) (load_stop.Data stop) =
    status.Data (record { file = file; column = None; stop = stop })
refusal_of_rows f load_stop.TooManyRows = status.Limit limit_kind.FileRows
refusal_of_rows f load_stop.NoMemory = status.NoMemory

abbrev pub rows_or_refusal : DataFile → Result (List LoadedRow) LoadStop → Result (List LoadedRow) Status
rows_or_refusal f (Ok rows) = Ok rows
rows_or_refusal f (Err stop) = Err (refusal_of_rows f stop)

-- ---- all files of a script

-- the file that a statement with these columns of vertices and of edges loads, if it is a load
abbrev pub data_file_by : TypedStmt → List Column → List Column → Option DataFile
data_file_by (stmts.Vertices file) vertices edges = Some (Csv file 1 vertices)
data_file_by (stmts.Edges file) vertices edges = Some (Csv file 2 edges)
data_file_by (stmts.EdgeList file oriented) vertices edges = Some (EdgeList file oriented)
data_file_by _ vertices edges = None

abbrev pub data_file_of : CheckedStmt → Option DataFile
data_file_of c = data_file_by c.stmt (unwrap_or c.made.vertices []) (unwrap_or c.made.edges [])

-- what was loaded so far, with the sums of bytes and of rows
pub record LoadedSoFar : Type 0 where
  pub loads : LoadedRows
  pub bytes : ℕ
  pub rows : ℕ

abbrev pub nothing_loaded : LoadedSoFar
nothing_loaded = record { loads = []; bytes = 0; rows = 0 }

-- a sum, which may not pass its limit
abbrev pub sum_within : LimitKind → ℕ → Result ℕ Status
sum_within kind sum = if nat_lt (most_of kind) sum then Err (status.Limit kind) else Ok sum

-- the bytes of the file of statement s: the sum of sizes, its rows, the sum of rows
abbrev pub with_bytes : ℕ → DataFile → List ℕ → LoadedSoFar → Result LoadedSoFar Status
with_bytes s f bytes so_far =
    sum_within limit_kind.AllBytes (so_far.bytes + length bytes) >>= λ all_bytes.
    rows_or_refusal f (rows_in_file f bytes) >>= λ rows.
    sum_within limit_kind.AllRows (so_far.rows + length rows) >>= λ all_rows.
    Ok (record { loads = so_far.loads ++ (s, rows) ∷ []; bytes = all_bytes; rows = all_rows })

-- the file of statement s: its source and its size, and then its bytes
abbrev pub with_file : Contents → ℕ → DataFile → LoadedSoFar → Result LoadedSoFar Status
with_file contents s f so_far =
    bytes_within limit_kind.FileBytes (file_name f) contents >>= λ bytes. with_bytes s f bytes so_far

abbrev pub with_file_if : Contents → ℕ → Option DataFile → LoadedSoFar → Result LoadedSoFar Status
with_file_if contents s None so_far = Ok so_far
with_file_if contents s (Some f) so_far = with_file contents s f so_far

-- the files of the statements from number s on, after those before them
abbrev pub with_files : Contents → ℕ → List CheckedStmt → LoadedSoFar → Result LoadedSoFar Status
with_files contents s [] so_far = Ok so_far
with_files contents s (c ∷ checked) so_far =
    with_file_if contents s (data_file_of c) so_far >>= λ next. with_files contents (s + 1) checked next

-- the rows of all load statements, in script order, whether an action needs them or not
abbrev pub rows_of_script : Contents → List CheckedStmt → Result LoadedRows Status
rows_of_script contents checked = with_files contents 1 checked nothing_loaded >>= λ all. Ok all.loads

-- ---- examples

-- a vertex list of no columns
load_example : CheckedStmt
load_example = record { stmt = stmts.EdgeList (codes "e") false; made = record { vertices = None; edges = None }; uses = [] }

missing-example : rows_of_script [] (load_example ∷ []) ≡ Err (status.Source (codes "e"))
unfolding load_example
missing-example = refl
