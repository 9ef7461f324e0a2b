use Rattle.std.proofs.Common.{◌≡◌, ◌++◌, length}
use Rattle.gx_exec_answers.specs.LentRows.{vertices_in_parts, vertices_lent}
use Rattle.gx_exec_answers.proofs.vertices.all_vertices.Given as goal

-- the vertices so far and those of the rest are all vertices
abbrev pub invariant-loop-rest : goal.invariant-loop-rest
invariant-loop-rest l = vertices_lent l.vertices.items ++ vertices_in_parts l.rest ≡ vertices_in_parts l.parts

abbrev pub decreases-loop-rest : goal.decreases-loop-rest
decreases-loop-rest l = length l.rest
