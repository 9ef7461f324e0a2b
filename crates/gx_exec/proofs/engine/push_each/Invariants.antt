use Rattle.std.proofs.Common.{◌≡◌, ◌++◌}
use Rattle.std.specs.List.{range_with_len}
use Rattle.gx_lineage.specs.Lineage.{blocks_at}
use Rattle.gx_exec.proofs.engine.push_each.Given as goal

-- the blocks of the parts so far are added
abbrev pub invariant-loop-part : goal.invariant-loop-part
invariant-loop-part l = l.blocks.items ≡ l.fn.blocks.items ++ blocks_at l.node (range_with_len 0 l.part)
