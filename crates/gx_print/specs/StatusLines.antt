-- The line that tells why a run ended, to the byte.
use Rattle.std.specs.Prelude.{◌≡◌, ℕ, Bool, true, false, List, [], ◌∷◌, ◌++◌, Option, None, Some, codes, decimal, pos, negsuc, refl}
use Rattle.std.specs.Fmt.{digits, signed_decimal}
use Rattle.std.specs.List.{concat}
use Rattle.gx_load.specs.declared.load_stop.CellKind.TheVariants as cell
use Rattle.gx_load.specs.declared.load_stop.RowStop.{RowStop}
use Rattle.gx_load.specs.declared.load_stop.RowStop.TheVariants as row_stop
use Rattle.gx_rows.specs.Limits.{most_of}
use Rattle.gx_rows.specs.declared.cause.Cause.TheVariants as cause
use Rattle.gx_rows.specs.declared.fault.Fault.{Fault}
use Rattle.gx_rows.specs.declared.limit_kind.LimitKind.{LimitKind}
use Rattle.gx_rows.specs.declared.limit_kind.LimitKind.TheVariants as limit
use Rattle.gx_rows.specs.declared.row_key.RowKey.{RowKey}
use Rattle.gx_rows.specs.declared.row_key.RowKey.TheVariants as row_key
use Rattle.gx_syntax_tokens.specs.declared.syntax_kind.SyntaxKind.TheVariants as syntax_kind
use Rattle.gx_types_exprs.specs.declared.type_kind.TypeKind.TheVariants as type_kind
use Rattle.gx_print.specs.Wording.{cause_wording, cell_wording, limit_name, syntax_wording, type_wording}
use Rattle.gx_print.specs.declared.status.ScriptStop.{ScriptStop}
use Rattle.gx_print.specs.declared.status.ScriptStop.TheVariants as script_stop
use Rattle.gx_print.specs.declared.status.Status.{Status}
use Rattle.gx_print.specs.declared.status.Status.TheVariants as status

-- a refused script: an offset, a statement, or an expression of a statement
unfoldable pub script_line : ScriptStop → List ℕ
script_line (script_stop.NotUtf8 offset) =
    concat (codes "script: byte " ∷ decimal offset ∷ codes ": not UTF-8\n" ∷ [])
script_line (script_stop.Syntax offset kind) =
    concat (codes "script: byte " ∷ decimal offset ∷ codes ": " ∷ syntax_wording kind ∷ codes "\n" ∷ [])
script_line (script_stop.Typing statement None kind) =
    concat (codes "script: statement " ∷ decimal statement ∷ codes ": " ∷ type_wording kind ∷ codes "\n" ∷ [])
script_line (script_stop.Typing statement (Some expr) kind) =
    concat (codes "script: statement " ∷ decimal statement ∷ codes ", expression " ∷ decimal expr
    ∷ codes ": " ∷ type_wording kind ∷ codes "\n" ∷ [])

-- a refused data file: a column that its header lacks, a row, a cell, or a line of an edge list
unfoldable pub data_line : List ℕ → List ℕ → RowStop → List ℕ
data_line file name (row_stop.Header column) =
    concat (codes "data: " ∷ file ∷ codes ": column " ∷ name ∷ codes " missing\n" ∷ [])
data_line file name (row_stop.Shape row) =
    concat (codes "data: " ∷ file ∷ codes ": row " ∷ decimal row ∷ codes ": shape\n" ∷ [])
data_line file name (row_stop.Cell row column kind) =
    concat (codes "data: " ∷ file ∷ codes ": row " ∷ decimal row
    ∷ codes ", column " ∷ name ∷ codes ": " ∷ cell_wording kind ∷ codes "\n" ∷ [])
data_line file name (row_stop.Line line) =
    concat (codes "data: " ∷ file ∷ codes ": line " ∷ decimal line ∷ codes ": not an edge\n" ∷ [])

-- the name of the refused column, if there is one
abbrev pub name_or_empty : Option (List ℕ) → List ℕ
name_or_empty None = []
name_or_empty (Some name) = name

-- the vertex of a fault, or the ends of its edge
unfoldable pub key_text : RowKey → List ℕ
key_text (row_key.Vertex v) = codes "vertex " ++ signed_decimal v.0
key_text (row_key.Edge src dst row) =
    codes "edge " ++ (signed_decimal src.0 ++ (codes " " ++ signed_decimal dst.0))

-- a fault: the statement, the vertex or edge, the expression, and the cause
unfoldable pub fault_line : Fault → List ℕ
fault_line fault =
    concat (codes "fault: statement " ∷ decimal fault.statement ∷ codes ", " ∷ key_text fault.key
    ∷ codes ", expression " ∷ decimal fault.expr ∷ codes ": " ∷ cause_wording fault.cause ∷ codes "\n" ∷ [])

-- a limit with its number
unfoldable pub limit_line : LimitKind → List ℕ
limit_line kind = concat (codes "limit: " ∷ limit_name kind ∷ codes " " ∷ decimal (most_of kind) ∷ codes "\n" ∷ [])

-- a file that could not be read
unfoldable pub source_line : List ℕ → List ℕ
source_line name = concat (codes "source: " ∷ name ∷ codes "\n" ∷ [])

-- the text of a status; a run that is done has none
unfoldable pub text_of_status : Status → List ℕ
text_of_status status.Done = []
text_of_status status.Usage =
    concat (codes "usage: gx run SCRIPT [--parts N] [--cut 1d|2d|random|canonical|rows] [--workers N] "
    ∷ codes "[--schedule FILE] [--report] | gx show SCRIPT | gx sample SEED N\n" ∷ [])
text_of_status (status.Script stop) = script_line stop
text_of_status (status.Schedule line) = concat (codes "schedule: line " ∷ decimal line ∷ codes "\n" ∷ [])
text_of_status (status.Data stop) = data_line stop.file (name_or_empty stop.column) stop.stop
text_of_status (status.Fault fault) = fault_line fault
text_of_status (status.Limit kind) = limit_line kind
text_of_status (status.Source name) = source_line name
text_of_status status.Sink = codes "sink\n"
text_of_status status.NoMemory = codes "no memory\n"

-- whether no name, number or cause goes into the text of a status
abbrev pub has_fixed_text : Status → Bool
has_fixed_text status.Done = true
has_fixed_text status.Usage = true
has_fixed_text (status.Script stop) = false
has_fixed_text (status.Schedule line) = false
has_fixed_text (status.Data stop) = false
has_fixed_text (status.Fault fault) = false
has_fixed_text (status.Limit kind) = false
has_fixed_text (status.Source name) = false
has_fixed_text status.Sink = true
has_fixed_text status.NoMemory = true

an_unknown_column : ScriptStop
an_unknown_column = script_stop.Typing 4 (Some 2) type_kind.ColumnUnknown

script_lines : (script_line (script_stop.NotUtf8 7) ≡ codes "script: byte 7: not UTF-8\n")
    × (script_line (script_stop.Syntax 18 syntax_kind.Unexpected)
    ≡ codes "script: byte 18: not expected here\n")
    × (script_line (script_stop.Typing 1 None type_kind.NameUnknown)
    ≡ codes "script: statement 1: name unknown\n")
    × (script_line an_unknown_column ≡ codes "script: statement 4, expression 2: column unknown\n")
unfolding script_line an_unknown_column digits
script_lines = (refl, refl, refl, refl)

data_lines : (data_line (codes "f") (codes "id") (row_stop.Header 0) ≡ codes "data: f: column id missing\n")
    × (data_line (codes "f") [] (row_stop.Shape 1) ≡ codes "data: f: row 1: shape\n")
    × (data_line (codes "f") (codes "age") (row_stop.Cell 2 1 cell.NotInt)
    ≡ codes "data: f: row 2, column age: not an int\n")
    × (data_line (codes "f") [] (row_stop.Line 6) ≡ codes "data: f: line 6: not an edge\n")
unfolding data_line digits
data_lines = (refl, refl, refl, refl)

a_vertex : RowKey
a_vertex = row_key.Vertex (record { 0 = pos 5 })

an_edge : RowKey
an_edge = row_key.Edge (record { 0 = negsuc 8 }) (record { 0 = pos 3 }) []

fault_lines : (fault_line (record { statement = 4; key = a_vertex; expr = 1; cause = cause.Overflow })
    ≡ codes "fault: statement 4, vertex 5, expression 1: overflow\n")
    × (fault_line (record { statement = 2; key = an_edge; expr = 0; cause = cause.DivideByZero })
    ≡ codes "fault: statement 2, edge -9 3, expression 0: divide by zero\n")
unfolding fault_line key_text a_vertex an_edge digits
fault_lines = (refl, refl)

limit_lines : (limit_line limit.FileBytes ≡ codes "limit: file bytes 33554432\n")
    × (limit_line limit.Rounds ≡ codes "limit: rounds of a pregel 1000\n")
unfolding limit_line digits
limit_lines = (refl, refl)
