-- Which blocks a demand wants, and which are ready to run.
use Rattle.std.specs.Prelude.{◌≡◌, ℕ, true, false, List, All, Contains}
use Rattle.std.specs.Ordering.{is_gt}
use Rattle.gx_rows.specs.declared.vid.Vid.{Vid}
use Rattle.gx_lineage.specs.declared.block_id.BlockId.{BlockId}
use Rattle.gx_lineage.specs.Lineage.{Lineage, IsBlock, block_inputs}
use Rattle.gx_cluster_state.specs.Blocks.{block_cmp}
use Rattle.gx_cluster_state.specs.Shapes.{Shape, is_held, is_running}

-- the blocks that there are, the inputs of each, and what each sends
pub record Net : Type 1 where
  pub has : BlockId → Type 0
  pub inputs : BlockId → List BlockId
  pub freight : BlockId → List (ℕ × Vid)

-- the net of a lineage
abbrev pub net_of : Lineage → (BlockId → List (ℕ × Vid)) → Net
net_of l freight = record { has = IsBlock l; inputs = block_inputs l; freight = freight }

-- a target that is not held, or an input that is not held of a wanted block that does not run
pub data Wanted (n : Net) (targets : List BlockId) (s : Shape) : BlockId → Type 0 where
  target : {b : BlockId} → Contains targets b → is_held s b ≡ false → Wanted n targets s b
  input : {b c : BlockId} → Wanted n targets s c → is_running s c ≡ false → Contains (n.inputs c) b
      → is_held s b ≡ false
      → Wanted n targets s b

-- a wanted block that does not run, and whose inputs are all held
pub record IsReady (n : Net) (targets : List BlockId) (s : Shape) (b : BlockId) : Type 0 where
  pub wanted : Wanted n targets s b
  pub idle : is_running s b ≡ false
  pub inputs : All (λ c. is_held s c ≡ true) (n.inputs b)

-- the least of the ready blocks
pub record IsLeastReady (n : Net) (targets : List BlockId) (s : Shape) (b : BlockId) : Type 0 where
  pub ready : IsReady n targets s b
  pub least : (c : BlockId) → IsReady n targets s c → is_gt (block_cmp b c) ≡ false

-- no block is ready
abbrev pub IsStuck : Net → List BlockId → Shape → Type 0
IsStuck n targets s = (b : BlockId) → ¬ IsReady n targets s b
