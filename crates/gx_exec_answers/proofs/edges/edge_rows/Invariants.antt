use Rattle.std.proofs.Common.{◌≡◌, ◌++◌, length, map}
use Rattle.gx_exec_answers.specs.AnswerRows.{rows_of_edges}
use Rattle.gx_epart.specs.Edges.{edges_lent}
use Rattle.gx_exec_answers.proofs.edges.edge_rows.Given as goal

-- the rows so far and those of the rest are all rows
abbrev pub invariant-loop-rest : goal.invariant-loop-rest
invariant-loop-rest l = map (λ row. row.items) l.rows.items ++ rows_of_edges (edges_lent l.rest) ≡ rows_of_edges (edges_lent l.edges)

abbrev pub decreases-loop-rest : goal.decreases-loop-rest
decreases-loop-rest l = length l.rest
