use Rattle.std.proofs.Common.{refl, arith}
use Rattle.gx_exec_contents.specs.MadeBlocks.{edges_held}
use Rattle.gx_exec_reads.specs.HeldRows.{edges_of_block}
use Rattle.gx_exec_reads.proofs.RowsOfBlocks.{rows-moved}
use Rattle.gx_exec_reads.proofs.partitions.edge_parts.Goals as goal

pub loop-block-preserved : goal.loop-block-preserved
loop-block-preserved c = record {
  so_far =
      rows-moved edges_held edges_of_block refl (λ t. refl) c.args.cluster.now.held _ _ _ c.args.blocks.now c.loop-block.block-index _ c.loop-block-test.true
      c.in_ok-push_edges.ensures.exact c.loop-block.invariant.so_far;
  few = omega (arith, c.in_ok-push_edges.ensures.few, c.loop-block.invariant.few);
}
