-- The wanted blocks that do not run: those that are ready, and those that wait for an input.
use Rattle.std.specs.Prelude.{◌≡◌, Bool, true, false, List, [], Contains, cond, unwrap_or}
use Rattle.std.specs.List.{list_any}
use Rattle.std.specs.Map.{lookup}
use Rattle.std.specs.Ordering.{is_gt}
use Rattle.gx_lineage.specs.declared.block_id.BlockId.{BlockId}
use Rattle.gx_cluster_state.specs.Blocks.{block_cmp, same_block}
use Rattle.gx_cluster_state.specs.Nets.{Net, IsReady, Wanted}
use Rattle.gx_cluster_state.specs.Shapes.{Shape, is_held, is_running}

-- the ready blocks, and by missing input the blocks that wait for it
pub record BlockAgenda : Type 0 where
  pub ready : List BlockId
  pub waiting : List (BlockId × List BlockId)

-- whether the block is in the list
abbrev pub has_block : List BlockId → BlockId → Bool
has_block bs b = list_any (same_block b) bs

-- the blocks that wait for an input
abbrev pub waiting_for : List (BlockId × List BlockId) → BlockId → List BlockId
waiting_for lists input = unwrap_or (lookup (same_block input) lists) []

-- a wanted block that does not run waits for an input that is not held
pub record Waits (n : Net) (targets : List BlockId) (s : Shape) (c b : BlockId) : Type 0 where
  pub wanted : Wanted n targets s b
  pub idle : is_running s b ≡ false
  pub is_input : Contains (n.inputs b) c
  pub missing : is_held s c ≡ false

-- a wanted block that does not run
pub record IsOpen (n : Net) (targets : List BlockId) (s : Shape) (b : BlockId) : Type 0 where
  pub wanted : Wanted n targets s b
  pub idle : is_running s b ≡ false

-- the block is ready, or waits, or is to be filed
pub data IsListed (a : BlockAgenda) (pending : List BlockId) (b : BlockId) : Type 0 where
  is_ready : has_block a.ready b ≡ true → IsListed a pending b
  is_waiting : (c : BlockId) → has_block (waiting_for a.waiting c) b ≡ true → IsListed a pending b
  is_pending : has_block pending b ≡ true → IsListed a pending b

-- an agenda lists the wanted blocks that do not run, but for the pending ones, which are still to
-- be filed
pub record IsAgenda (n : Net) (targets : List BlockId) (s : Shape) (a : BlockAgenda)
    (pending : List BlockId) : Type 0 where
  pub ready : (b : BlockId) → has_block a.ready b ≡ true → IsReady n targets s b
  pub waiting : (c b : BlockId) → has_block (waiting_for a.waiting c) b ≡ true
      → Waits n targets s c b
  pub unfiled : (b : BlockId) → has_block pending b ≡ true → IsOpen n targets s b
  pub complete : (b : BlockId) → IsOpen n targets s b → IsListed a pending b

-- the least ready block b was removed
pub record Pops (old new : BlockAgenda) (b : BlockId) : Type 0 where
  pub there : has_block old.ready b ≡ true
  pub least : (q : BlockId) → has_block old.ready q ≡ true → is_gt (block_cmp b q) ≡ false
  pub rest : (q : BlockId)
      → has_block new.ready q ≡ cond (same_block b q) false (has_block old.ready q)
  pub waiting_kept : new.waiting ≡ old.waiting
