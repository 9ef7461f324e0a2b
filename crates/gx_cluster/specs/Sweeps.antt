-- The search for the wanted blocks that do not run, from the targets on.
use Rattle.std.specs.Prelude.{◌≡◌, ℕ, ◌+◌, ◌*◌, true, false, List, [], ◌∷◌, Contains, max}
use Rattle.gx_lineage.specs.declared.block_id.BlockId.{BlockId}
use Rattle.gx_cluster_state.specs.Nets.{Net, Wanted}
use Rattle.gx_cluster_state.specs.Shapes.{Shape, is_held, is_running}
use Rattle.gx_cluster.specs.Agendas.{IsOpen, has_block}

-- the block is still to be looked at, or runs, or was found
pub data IsReached (s : Shape) (front found : List BlockId) (b : BlockId) : Type 0 where
  in_front : has_block front b ≡ true → IsReached s front found b
  runs : is_running s b ≡ true → IsReached s front found b
  was_found : has_block found b ≡ true → IsReached s front found b

-- a search that has found some blocks, and has still to look at those in front
pub record IsSweep (n : Net) (targets : List BlockId) (s : Shape)
    (front found : List BlockId) : Type 0 where
  pub front_wanted : (b : BlockId) → has_block front b ≡ true → Wanted n targets s b
  pub found_open : (b : BlockId) → has_block found b ≡ true → IsOpen n targets s b
  pub targets_reached : (b : BlockId) → Contains targets b → is_held s b ≡ false
      → IsReached s front found b
  pub inputs_reached : (b c : BlockId) → has_block found b ≡ true → Contains (n.inputs b) c
      → is_held s c ≡ false
      → IsReached s front found c

-- the block was there, or is one of those that are not held
pub data IsAddedFrom (s : Shape) (blocks old : List BlockId) (b : BlockId) : Type 0 where
  was_there : has_block old b ≡ true → IsAddedFrom s blocks old b
  is_missing : Contains blocks b → is_held s b ≡ false → IsAddedFrom s blocks old b

-- those of some blocks that are not held were added
pub record AddsMissing (s : Shape) (blocks old new : List BlockId) : Type 0 where
  pub kept : (b : BlockId) → has_block old b ≡ true → has_block new b ≡ true
  pub added : (b : BlockId) → Contains blocks b → is_held s b ≡ false → has_block new b ≡ true
  pub only : (b : BlockId) → has_block new b ≡ true → IsAddedFrom s blocks old b

-- the number of a block, if each node has this many parts
abbrev pub block_number : ℕ → BlockId → ℕ
block_number parts b = b.node.0 * parts + b.part

-- one more than the greatest number of the blocks
abbrev pub block_height : ℕ → List BlockId → ℕ
block_height parts [] = 0
block_height parts (b ∷ bs) = max (block_number parts b + 1) (block_height parts bs)
