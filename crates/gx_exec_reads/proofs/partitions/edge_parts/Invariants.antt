use Rattle.std.proofs.Common.{◌≡◌, ◌≤◌, ◌++◌, drop, flat_map, length}
use Rattle.gx_exec_answers.specs.LentRows.{edges_in_parts}
use Rattle.gx_exec_contents.specs.MadeBlocks.{edges_held}
use Rattle.gx_exec_reads.specs.HeldAnswers.{held_contents}
use Rattle.gx_exec_reads.proofs.partitions.edge_parts.Given as goal

-- the edges so far and those of the blocks to come are all, at most one partition for each block
abbrev pub invariant-loop-block : goal.invariant-loop-block
invariant-loop-block l = record {
  so_far : edges_in_parts l.parts.items ++ flat_map edges_held (held_contents l.cluster.held (drop l.block-index l.blocks)) ≡ flat_map edges_held (held_contents l.cluster.held l.blocks);
  few : length l.parts.items ≤ l.block-index;
}
