-- The blocks of a node, one part after another.
use Rattle.std.proofs.Common.{◌≡◌, ℕ, ◌+◌, [], ◌∷◌, ◌++◌, arith}
use Rattle.std.specs.List.{range_with_len}
use Rattle.std.proofs.lemmas.List.FromFn.{map-range_with_len_more}
use Rattle.gx_lineage.specs.declared.block_id.BlockId.{BlockId}
use Rattle.gx_lineage.specs.declared.node_id.NodeId.{NodeId}
use Rattle.gx_lineage.specs.Lineage.{blocks_at}

-- the blocks at the first k + 1 parts are those at the first k, and then the block at k
pub blocks_at_more : (n : NodeId) (k : ℕ)
    → blocks_at n (range_with_len 0 (k + 1))
    ≡ blocks_at n (range_with_len 0 k) ++ record { node = n; part = k } ∷ []
blocks_at_more n k =
    map-range_with_len_more (λ p. let b : BlockId = record { node = n; part = p } in b) 0 k k
    (omega arith)
