-- Which blocks a cluster holds and runs, and how that changes.
use Rattle.std.specs.Prelude.{
  ◌==◌,
  ℕ,
  Bool,
  false,
  not,
  List,
  ◌∷◌,
  [],
  ◌++◌,
  Option,
  None,
  Some,
  filter,
  is_some,
  set,
  slice_get,
  unwrap_or,
}
use Rattle.std.specs.List.{count_by, list_all, list_any}
use Rattle.std.specs.Map.{lookup}
use Rattle.std.specs.BTreeMap.{insert_entry}
use Rattle.gx_rows.specs.declared.vid.Vid.{Vid}
use Rattle.gx_lineage.specs.declared.block_id.BlockId.{BlockId}
use Rattle.gx_lineage.specs.declared.node_id.NodeId.{NodeId}
use Rattle.gx_cluster_state.specs.declared.log_entry.LogEntry.{LogEntry}
use Rattle.gx_cluster_state.specs.declared.log_entry.LogEntry.TheVariants as entry
use Rattle.gx_cluster_state.specs.Blocks.{block_cmp, same_block}

-- a cluster without its values
pub record Shape : Type 0 where
  -- each held block with the worker that holds it, ascending by block
  pub held : List (BlockId × ℕ)
  -- by worker, the block that it runs
  pub running : List (Option BlockId)
  pub log : List LogEntry

-- whether a worker holds the block
unfoldable pub is_held : Shape → BlockId → Bool
is_held s b = is_some (lookup (same_block b) s.held)

-- whether a worker holds each of the blocks
abbrev pub all_held : Shape → List BlockId → Bool
all_held s bs = list_all (is_held s) bs

-- whether a worker that runs this runs the block
abbrev pub runs_block : BlockId → Option BlockId → Bool
runs_block b None = false
runs_block b (Some c) = same_block b c

-- whether a worker runs the block
unfoldable pub is_running : Shape → BlockId → Bool
is_running s b = list_any (runs_block b) s.running

-- worker w began to run b
unfoldable pub started : Shape → ℕ → BlockId → Shape
started s w b = record {
  held = s.held;
  running = set s.running w (Some b);
  log =
      s.log ++ entry.Started w b ∷ [];
}

-- worker w finished b, and holds it
unfoldable pub finished : Shape → ℕ → BlockId → List (ℕ × Vid) → Shape
finished s w b cargo = record {
  held = insert_entry block_cmp s.held b w;
  running = set s.running w None;
  log = s.log ++ entry.Finished w b cargo ∷ [];
}

-- worker w lost all that it held and ran
unfoldable pub lost : Shape → ℕ → Shape
lost s w = record {
  held = filter (λ e. not (e.1 == w)) s.held;
  running = set s.running w None;
  log = s.log ++ entry.Lost w (count_by (λ e. e.1 == w) s.held)
      (unwrap_or (slice_get s.running w) None) ∷ [];
}

-- an event changed nothing at worker w
unfoldable pub with_nothing : Shape → ℕ → Shape
with_nothing s w = record {
  held = s.held;
  running = s.running;
  log =
      s.log ++ entry.Nothing w ∷ [];
}

-- all blocks of a node are gone
unfoldable pub released : Shape → NodeId → Shape
released s n = record {
  held = filter (λ e. not (e.0.node.0 == n.0)) s.held;
  running = s.running;
  log = s.log ++ entry.Released n ∷ [];
}
