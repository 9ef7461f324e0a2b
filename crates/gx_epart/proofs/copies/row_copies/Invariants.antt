use Rattle.std.proofs.Common.{◌≡◌, ◌++◌, length}
use Rattle.gx_epart.specs.Edges.{edges_lent}
use Rattle.gx_epart.specs.Numbers.{rows_of}
use Rattle.gx_epart.proofs.copies.row_copies.Given as goal

-- the rows so far and those of the rest are all rows
abbrev pub invariant-loop-rest : goal.invariant-loop-rest
invariant-loop-rest l = l.rows.items ++ rows_of (edges_lent l.rest) ≡ rows_of (edges_lent l.edges)

abbrev pub decreases-loop-rest : goal.decreases-loop-rest
decreases-loop-rest l = length l.rest
