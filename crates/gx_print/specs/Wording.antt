-- The words for each cause of a refusal, and for each limit.
use Rattle.std.specs.Prelude.{ℕ, List, codes}
use Rattle.gx_load.specs.declared.load_stop.CellKind.{CellKind}
use Rattle.gx_load.specs.declared.load_stop.CellKind.TheVariants as cell
use Rattle.gx_rows.specs.declared.cause.Cause.{Cause}
use Rattle.gx_rows.specs.declared.cause.Cause.TheVariants as cause
use Rattle.gx_rows.specs.declared.limit_kind.LimitKind.{LimitKind}
use Rattle.gx_rows.specs.declared.limit_kind.LimitKind.TheVariants as limit
use Rattle.gx_syntax_tokens.specs.declared.syntax_kind.SyntaxKind.{SyntaxKind}
use Rattle.gx_syntax_tokens.specs.declared.syntax_kind.SyntaxKind.TheVariants as syntax_kind
use Rattle.gx_types_exprs.specs.declared.type_kind.TypeKind.{TypeKind}
use Rattle.gx_types_exprs.specs.declared.type_kind.TypeKind.TheVariants as type_kind

-- why a script is refused at an offset
abbrev pub syntax_wording : SyntaxKind → List ℕ
syntax_wording syntax_kind.NotToken = codes "not a token"
syntax_wording syntax_kind.TextOpen = codes "text not closed"
syntax_wording syntax_kind.TextLong = codes "text too long"
syntax_wording syntax_kind.NameLong = codes "name too long"
syntax_wording syntax_kind.NumberLarge = codes "number too large"
syntax_wording syntax_kind.Unexpected = codes "not expected here"

-- why a statement is not well typed
abbrev pub type_wording : TypeKind → List ℕ
type_wording type_kind.NameTaken = codes "name taken"
type_wording type_kind.NameUnknown = codes "name unknown"
type_wording type_kind.WrongSort = codes "wrong sort"
type_wording type_kind.ColumnName = codes "column name not allowed"
type_wording type_kind.ColumnTwice = codes "column twice"
type_wording type_kind.ColumnsDiffer = codes "columns differ"
type_wording type_kind.MergeKind = codes "merge does not take this kind"
type_wording type_kind.ConstKind = codes "constant of wrong kind"
type_wording type_kind.SideUnknown = codes "side not readable here"
type_wording type_kind.ColumnUnknown = codes "column unknown"
type_wording type_kind.FunctionUnknown = codes "function unknown"
type_wording type_kind.KindWrong = codes "wrong kind"
type_wording type_kind.NotBuilt = codes "not built"

-- why a cell is refused
abbrev pub cell_wording : CellKind → List ℕ
cell_wording cell.NotInt = codes "not an int"
cell_wording cell.NotBool = codes "not a bool"
cell_wording cell.NotText = codes "not a text"
cell_wording cell.TextTooLong = codes "text too long"
cell_wording cell.NotIds = codes "not ids"
cell_wording cell.ListTooLong = codes "list too long"

-- why an expression or a merge has no value
abbrev pub cause_wording : Cause → List ℕ
cause_wording cause.Overflow = codes "overflow"
cause_wording cause.DivideByZero = codes "divide by zero"
cause_wording cause.TextTooLong = codes "text too long"
cause_wording cause.ListTooLong = codes "list too long"

-- what a limit bounds
abbrev pub limit_name : LimitKind → List ℕ
limit_name limit.ScriptBytes = codes "script bytes"
limit_name limit.ScheduleBytes = codes "schedule bytes"
limit_name limit.Events = codes "events"
limit_name limit.FileBytes = codes "file bytes"
limit_name limit.AllBytes = codes "all bytes"
limit_name limit.FileRows = codes "file rows"
limit_name limit.AllRows = codes "all rows"
limit_name limit.Columns = codes "columns"
limit_name limit.Sends = codes "sends"
limit_name limit.Statements = codes "statements"
limit_name limit.StatementTokens = codes "statement tokens"
limit_name limit.Depth = codes "depth"
limit_name limit.Rounds = codes "rounds of a pregel"
limit_name limit.AllRounds = codes "rounds of a script"
