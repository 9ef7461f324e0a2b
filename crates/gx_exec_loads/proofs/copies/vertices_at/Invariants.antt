use Rattle.std.proofs.Common.{◌≡◌, ◌++◌, length, map}
use Rattle.gx_exec_loads.specs.Filing.{items_at, vertex_of_row}
use Rattle.gx_vpart.specs.LentRows.{vertices_lent}
use Rattle.gx_exec_loads.proofs.copies.vertices_at.Given as goal

-- the vertices so far and those at the rest of the positions are all
abbrev pub invariant-loop-rest : goal.invariant-loop-rest
invariant-loop-rest l = vertices_lent l.vertices.items ++ map vertex_of_row (items_at l.rows l.rest) ≡ map vertex_of_row (items_at l.rows l.positions)

abbrev pub decreases-loop-rest : goal.decreases-loop-rest
decreases-loop-rest l = length l.rest
