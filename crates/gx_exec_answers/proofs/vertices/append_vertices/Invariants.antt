use Rattle.std.proofs.Common.{◌≡◌, ◌++◌}
use Rattle.gx_exec_answers.specs.LentRows.{vertices_lent}
use Rattle.gx_exec_answers.proofs.vertices.append_vertices.Given as goal

-- the vertices so far and those that are left are all vertices
abbrev pub invariant-rows : goal.invariant-rows
invariant-rows l = record {
  can : goal.iterator-rows.can_next l.id-iterator;
  ends : goal.iterator-rows.is_finite l.id-iterator;
  so_far : vertices_lent l.vertices.items ++ l.id-iterator ≡ vertices_lent l.fn.vertices.items ++ l.part;
}
