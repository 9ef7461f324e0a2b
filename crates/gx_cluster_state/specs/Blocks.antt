-- The order of blocks.
use Rattle.std.specs.Prelude.{Bool}
use Rattle.std.specs.Ordering.{is_eq, nat_cmp, ordering_then}
use Rattle.std.specs.declared.cmp.Ordering.{Ordering}
use Rattle.gx_lineage.specs.declared.block_id.BlockId.{BlockId}

-- by node, then by part
abbrev pub block_cmp : BlockId → BlockId → Ordering
block_cmp a b = ordering_then (nat_cmp a.node.0 b.node.0) (nat_cmp a.part b.part)

-- whether two blocks are the same
abbrev pub same_block : BlockId → BlockId → Bool
same_block a b = is_eq (block_cmp a b)
