use Rattle.std.proofs.Common.{append_assoc}
use Rattle.gx_lineage.specs.BlockLaws.{blocks_at_more}
use Rattle.gx_exec.proofs.engine.push_each.Goals as goal

pub loop-part-preserved : goal.loop-part-preserved
loop-part-preserved c =
    rw (c.in_ok-push.ensures.items, c.loop-part.invariant, blocks_at_more c.args.node c.loop-part.part, append_assoc)
