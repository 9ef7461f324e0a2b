-- How many turns a demand may still take.
use Rattle.std.specs.Prelude.{
  ◌≡◌,
  ℕ,
  ◌+◌,
  true,
  false,
  ◌||◌,
  List,
  [],
  ◌∷◌,
  Contains,
  cond,
  is_some,
  length,
  map,
}
use Rattle.std.specs.List.{count_by, flat_map, list_any, range_with_len, sum_by}
use Rattle.gx_lineage.specs.Lineage.{Lineage, blocks_at}
use Rattle.gx_lineage.specs.declared.block_id.BlockId.{BlockId}
use Rattle.gx_lineage.specs.declared.node_id.NodeId.{NodeId}
use Rattle.gx_cluster_state.specs.Blocks.{same_block}
use Rattle.gx_cluster_state.specs.Nets.{Net}
use Rattle.gx_cluster_state.specs.Shapes.{Shape, is_held, is_running}

-- the turns that start and finish a block, if it is neither held nor running
unfoldable pub turns_for : Shape → BlockId → ℕ
turns_for s b = cond (is_held s b || is_running s b) 0 2

-- the most turns that a demand without events takes, if all blocks that it wants are in the list:
-- two for each block that is
-- neither held nor running, and one for each that runs
unfoldable pub turns_left : List BlockId → Shape → ℕ
turns_left bs s = sum_by (turns_for s) bs + count_by is_some s.running

-- no block is listed twice
abbrev pub AreDistinct : List BlockId → Type 0
AreDistinct [] = Unit
AreDistinct (b ∷ bs) = (list_any (same_block b) bs ≡ false) × AreDistinct bs

-- distinct blocks, with the targets, and with the inputs of each
pub record IsClosed (n : Net) (targets bs : List BlockId) : Type 0 where
  pub distinct : AreDistinct bs
  pub targets_listed : (b : BlockId) → Contains targets b → list_any (same_block b) bs ≡ true
  pub inputs_listed : (b c : BlockId) → list_any (same_block b) bs ≡ true → Contains (n.inputs b) c
      → list_any (same_block c) bs ≡ true

-- the nodes of these numbers
abbrev pub node_ids : List ℕ → List NodeId
node_ids ns = map (λ n. record { 0 = n }) ns

-- all blocks of a lineage
abbrev pub lineage_blocks : Lineage → List BlockId
lineage_blocks l =
    flat_map (λ n. blocks_at n (range_with_len 0 l.parts))
    (node_ids (range_with_len 0 (length l.nodes)))
