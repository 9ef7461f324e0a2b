use Rattle.std.proofs.Common.{◌≡◌, ◌++◌, drop}
use Rattle.gx_rows.specs.Columns.{names_of}
use Rattle.gx_exec_answers.proofs.lists.append_columns.Given as goal

-- the names so far and those of the rest are all names
abbrev pub invariant-loop-i : goal.invariant-loop-i
invariant-loop-i l = l.header.items ++ drop l.i (names_of l.columns) ≡ l.fn.header.items ++ names_of l.columns
