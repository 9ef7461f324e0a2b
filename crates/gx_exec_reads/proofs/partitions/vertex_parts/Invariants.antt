use Rattle.std.proofs.Common.{◌≡◌, ◌≤◌, ◌++◌, drop, flat_map, length}
use Rattle.gx_exec_answers.specs.LentRows.{vertices_in_parts}
use Rattle.gx_exec_contents.specs.MadeBlocks.{vertices_held}
use Rattle.gx_exec_reads.specs.HeldAnswers.{held_contents}
use Rattle.gx_exec_reads.proofs.partitions.vertex_parts.Given as goal

-- the vertices so far and those of the blocks to come are all, at most one partition for each block
abbrev pub invariant-loop-block : goal.invariant-loop-block
invariant-loop-block l = record {
  so_far : vertices_in_parts l.parts.items ++ flat_map vertices_held (held_contents l.cluster.held (drop l.block-index l.blocks)) ≡ flat_map vertices_held (held_contents l.cluster.held l.blocks);
  few : length l.parts.items ≤ l.block-index;
}
