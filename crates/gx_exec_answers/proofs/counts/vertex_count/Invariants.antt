use Rattle.std.proofs.Common.{◌≡◌, ◌+◌, ◌*◌, ◌^◌, ◌≤◌, length}
use Rattle.gx_exec_answers.specs.LentRows.{vertices_in_parts}
use Rattle.gx_exec_answers.proofs.counts.vertex_count.Given as goal

-- the vertices so far and those of the rest are all vertices, at most 2^32 for each partition
abbrev pub invariant-loop-rest : goal.invariant-loop-rest
invariant-loop-rest l = record {
  so_far : l.count + length (vertices_in_parts l.rest) ≡ length (vertices_in_parts l.parts);
  few : l.count + length l.rest * 2 ^ 32 ≤ 128 * 2 ^ 32;
}

abbrev pub decreases-loop-rest : goal.decreases-loop-rest
decreases-loop-rest l = length l.rest
