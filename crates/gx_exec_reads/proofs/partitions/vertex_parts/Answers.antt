use Rattle.std.proofs.Common.{refl, arith}
use Rattle.gx_exec_contents.specs.MadeBlocks.{vertices_held}
use Rattle.gx_exec_reads.specs.HeldRows.{vertices_of_block}
use Rattle.gx_exec_reads.proofs.RowsOfBlocks.{rows-moved}
use Rattle.gx_exec_reads.proofs.partitions.vertex_parts.Goals as goal

pub loop-block-preserved : goal.loop-block-preserved
loop-block-preserved c = record {
  so_far =
      rows-moved vertices_held vertices_of_block refl (λ t. refl) c.args.cluster.now.held _ _ _ c.args.blocks.now c.loop-block.block-index _ c.loop-block-test.true
      c.in_ok-push_vertices.ensures.exact c.loop-block.invariant.so_far;
  few = omega (arith, c.in_ok-push_vertices.ensures.few, c.loop-block.invariant.few);
}
