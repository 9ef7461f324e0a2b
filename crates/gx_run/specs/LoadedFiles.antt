-- Data files, as a run reads them.
use Rattle.std.specs.Prelude.{◌≡◌, ◌≤◌, ◌+◌, ◌-◌, ℕ, List, drop, slice_get, Option, None, Some, ⊤}
use Rattle.std.specs.Option.{option_and_then}
use Rattle.gx_rows.specs.Limits.{most_of}
use Rattle.gx_rows.specs.declared.limit_kind.LimitKind.TheVariants as limit_kind
use Rattle.gx_outside.specs.Contents.{Contents}
use Rattle.gx_load.specs.Loading.{column_name_of}
use Rattle.gx_load.specs.declared.load_stop.RowStop.{RowStop}
use Rattle.gx_types_stmts.specs.declared.checked_stmt.CheckedStmt.{CheckedStmt}
use Rattle.gx_model.specs.DataFiles as model
use Rattle.gx_model.specs.DataFiles.{Csv, EdgeList, data_file_of, file_name, nothing_loaded, with_files}
use Rattle.gx_run.specs.declared.data_file.DataFile.{DataFile}
use Rattle.gx_run.specs.declared.data_file.DataFile.TheVariants as files
use Rattle.gx_run.specs.declared.loads.LoadedSoFar.{LoadedSoFar}

-- ---- as the model's records

abbrev pub data_file_seen : DataFile → model.DataFile
data_file_seen (files.Vertices name columns) = Csv name.now 1 columns.now
data_file_seen (files.Edges name columns) = Csv name.now 2 columns.now
data_file_seen (files.EdgeList name oriented) = EdgeList name.now oriented

abbrev pub loaded_seen : LoadedSoFar → model.LoadedSoFar
loaded_seen l = record { loads = l.loads; bytes = l.bytes; rows = l.rows }

-- the file that statement s loads, if it is a load
abbrev pub file_of_number : List CheckedStmt → ℕ → Option model.DataFile
file_of_number checked s = option_and_then data_file_of (slice_get checked (s - 1))

-- the name of the refused column, if the position is a column's
abbrev pub column_refused : model.DataFile → RowStop → Option (List ℕ)
column_refused (Csv file keys columns) stop = column_name_of keys columns stop
column_refused (EdgeList file oriented) stop = None

-- ---- on the way

-- both sums are within their limits
pub record HasSumsWithin (l : LoadedSoFar) : Type 0 where
  pub bytes : l.bytes ≤ most_of limit_kind.AllBytes
  pub rows : l.rows ≤ most_of limit_kind.AllRows

-- if the contents are known, this much was loaded by the first n statements
abbrev pub HasLoaded : Option Contents → List CheckedStmt → ℕ → model.LoadedSoFar → Type 0
HasLoaded None checked n so_far = ⊤
HasLoaded (Some contents) checked n so_far =
    with_files contents 1 checked nothing_loaded ≡ with_files contents (n + 1) (drop n checked) so_far

-- ---- the names of files

-- some statement loads the file of this name
pub record IsLoaded (checked : List CheckedStmt) (name : List ℕ) : Type 0 where
  pub number : ℕ
  pub file : model.DataFile
  pub is_file : file_of_number checked number ≡ Some file
  pub is_name : name ≡ file_name file
