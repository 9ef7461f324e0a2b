-- The limits of a run.
use Rattle.std.specs.Prelude.{ℕ}
use Rattle.gx_rows.specs.declared.limit_kind.LimitKind.{LimitKind}
use Rattle.gx_rows.specs.declared.limit_kind.LimitKind.TheVariants.{ScriptBytes, ScheduleBytes, Events, FileBytes, AllBytes, FileRows, AllRows, Columns, Sends, Statements, StatementTokens, Depth, Rounds, AllRounds}

-- the greatest number that is within the limit
abbrev pub most_of : LimitKind → ℕ
most_of ScriptBytes = 1048576
most_of ScheduleBytes = 1048576
most_of Events = 1000000
most_of FileBytes = 33554432
most_of AllBytes = 67108864
most_of FileRows = 500000
most_of AllRows = 1000000
most_of Columns = 16
most_of Sends = 16
most_of Statements = 1000
most_of StatementTokens = 2048
most_of Depth = 64
most_of Rounds = 1000
most_of AllRounds = 10000
