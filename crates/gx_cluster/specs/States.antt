-- What contracts see of a cluster.
use Rattle.std.specs.Prelude.{
  ◌≡◌,
  ◌==◌,
  ◌-◌,
  ℕ,
  List,
  [],
  ◌∷◌,
  ◌++◌,
  true,
  Option,
  None,
  Some,
  filter,
  length,
  map,
  not,
  option_map,
  set,
  slice_get,
}
use Rattle.std.specs.List.{AllZip}
use Rattle.std.specs.BTreeMap.{insert_entry}
use Rattle.std.specs.Map.{lookup}
use Rattle.gx_rows.specs.declared.vid.Vid.{Vid}
use Rattle.gx_lineage.specs.declared.block_id.BlockId.{BlockId}
use Rattle.gx_lineage.specs.Lineage.{Lineage, IsBlock, block_inputs}
use Rattle.gx_lineage.specs.declared.node_id.NodeId.{NodeId}
use Rattle.gx_cluster_state.specs.declared.held.Held.{Held}
use Rattle.gx_cluster_state.specs.declared.log_entry.LogEntry.{LogEntry}
use Rattle.gx_cluster_state.specs.declared.log_entry.LogEntry.TheVariants as entry
use Rattle.gx_cluster_state.specs.declared.running.Running.{Running}
use Rattle.gx_cluster_state.specs.Blocks.{block_cmp, same_block}
use Rattle.gx_cluster_state.specs.Shapes.{Shape, is_held}
use Rattle.gx_cluster_state.specs.Nets.{net_of}
use Rattle.gx_cluster_state.specs.Tasks.{task_block}
use Rattle.gx_cluster_state.specs.Turns.{Turns}

pub record State (A : Type 0) : Type 0 where
  -- ascending by block
  pub held : List (BlockId × Held A)
  -- by worker
  pub running : List (Option (Running A))
  pub log : List LogEntry
  -- how many more entries the log has room for
  pub spare : ℕ

-- the cluster without its values
unfoldable pub shape : {A : Type 0} → State A → Shape
shape s = record {
  held = map (λ e. (e.0, e.1.worker)) s.held;
  running =
      map task_block s.running;
  log = s.log;
}

-- the value of a held block
abbrev pub held_value : {A : Type 0} → List (BlockId × Held A) → BlockId → Option A
held_value held b = option_map (λ h. h.value) (lookup (same_block b) held)

-- worker w began to run b with these inputs
abbrev pub with_task : {A : Type 0} → State A → ℕ → BlockId → List A → State A
with_task s w b vs = record {
  held = s.held;
  running = set s.running w (Some (record { block = b; inputs = vs }));
  log = s.log ++ entry.Started w b ∷ [];
  spare = s.spare;
}

-- worker w finished b, and holds its value
abbrev pub with_value : {A : Type 0} → State A → ℕ → BlockId → A → List (ℕ × Vid) → State A
with_value s w b v cargo = record {
  held = insert_entry block_cmp s.held b (record { worker = w; value = v });
  running = set s.running w None;
  log = s.log ++ entry.Finished w b cargo ∷ [];
  spare = s.spare;
}

-- all blocks of a node are gone
abbrev pub with_release : {A : Type 0} → State A → NodeId → State A
with_release s n = record {
  held = filter (λ e. not (e.0.node.0 == n.0)) s.held;
  running = s.running;
  log = s.log ++ entry.Released n ∷ [];
  spare = s.spare - 1;
}

-- the values are contents of the blocks, one each
abbrev pub AreContents : {A : Type 0} → (BlockId → A → Type 0) → List BlockId → List A → Type 0
AreContents content bs vs = AllZip content bs vs

-- each held value is a content of its block, each running block is in the lineage, and its inputs
-- are contents
pub record HoldsContents {A : Type 0} (content : BlockId → A → Type 0) (l : Lineage)
    (s : State A) : Type 0 where
  pub held : (b : BlockId) (h : Held A) → lookup (same_block b) s.held ≡ Some h → content b h.value
  pub blocks : (w : ℕ) (r : Running A) → slice_get s.running w ≡ Some (Some r) → IsBlock l r.block
  pub inputs : (w : ℕ) (r : Running A) → slice_get s.running w ≡ Some (Some r)
      → AreContents content (block_inputs l r.block) r.inputs

-- what turns without events lead to: contents are kept, and so is all that is held
pub record IsAfterTurns {A : Type 0} (content : BlockId → A → Type 0) (l : Lineage)
    (freight : BlockId → List (ℕ × Vid))
    (targets : List BlockId) (old new : State A) : Type 0 where
  pub contents : HoldsContents content l new
  pub turns : Turns (net_of l freight) targets (shape new) [] (shape old) []
  pub held_kept : (b : BlockId) → is_held (shape old) b ≡ true → is_held (shape new) b ≡ true
  pub spare_kept : new.spare ≡ old.spare
  pub workers_kept : length new.running ≡ length old.running
