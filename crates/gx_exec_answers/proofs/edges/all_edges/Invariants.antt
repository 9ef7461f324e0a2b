use Rattle.std.proofs.Common.{◌≡◌, ◌++◌, length}
use Rattle.gx_epart.specs.Edges.{edges_lent}
use Rattle.gx_exec_answers.specs.LentRows.{edges_in_parts}
use Rattle.gx_exec_answers.proofs.edges.all_edges.Given as goal

-- the edges so far and those of the rest are all edges
abbrev pub invariant-loop-rest : goal.invariant-loop-rest
invariant-loop-rest l = edges_lent l.edges.items ++ edges_in_parts l.rest ≡ edges_in_parts l.parts

abbrev pub decreases-loop-rest : goal.decreases-loop-rest
decreases-loop-rest l = length l.rest
