use Rattle.std.proofs.Common.{◌≡◌, ◌++◌, drop, map}
use Rattle.gx_exec_answers.specs.AnswerRows.{rows_of_edges}
use Rattle.gx_exec_answers.proofs.edges.rows_of_part.Given as goal

-- the rows so far and those from position i on are all rows
abbrev pub invariant-loop-i : goal.invariant-loop-i
invariant-loop-i l = map (λ row. row.items) l.rows.items ++ drop l.i (rows_of_edges l.part) ≡ rows_of_edges l.part
