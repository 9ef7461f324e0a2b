-- Look-ups in the shape of a state.
use Rattle.std.proofs.Common.{
  ◌≡◌,
  ◌∙◌,
  ℕ,
  ◌<◌,
  List,
  true,
  Option,
  Some,
  None,
  get_or,
  length,
  map,
  refl,
  ap,
  sym,
}
use Rattle.std.specs.Prelude.{All, IsSome, is_some, option_map, slice_get}
use Rattle.std.specs.List.{list_any}
use Rattle.std.specs.Map.{lookup}
use Rattle.std.proofs.lemmas.List.{length-map}
use Rattle.std.proofs.lemmas.Map.Made.{lookup-map_values}
use Rattle.gx_lineage.specs.declared.block_id.BlockId.{BlockId}
use Rattle.gx_cluster_state.specs.declared.held.Held.{Held}
use Rattle.gx_cluster_state.specs.declared.running.Running.{Running}
use Rattle.gx_cluster_state.specs.Blocks.{same_block}
use Rattle.gx_cluster_state.specs.Shapes.{is_held, is_running, runs_block}
use Rattle.gx_cluster_state.specs.Tasks.{task_block}
use Rattle.gx_cluster_state.specs.PositionLaws.{slice_get-below, slice_get-map}
use Rattle.gx_cluster.specs.States.{State, held_value, shape}

is_some-option_map : {A B : Type 0} (f : A → B) (o : Option A)
    → is_some (option_map f o) ≡ is_some o
is_some-option_map f None = refl
is_some-option_map f (Some x) = refl

pub is_held-shape : {A : Type 0} (s : State A) (b : BlockId)
    → is_held (shape s) b ≡ is_some (lookup (same_block b) s.held)
unfolding is_held shape
is_held-shape {A} s b =
    ap is_some (lookup-map_values (λ (h : Held A). h.worker) (same_block b) s.held)
    ∙ is_some-option_map (λ (h : Held A). h.worker) (lookup (same_block b) s.held)

pub is_running-shape : {A : Type 0} (s : State A) (b : BlockId)
    → is_running (shape s) b ≡ list_any (runs_block b) (map task_block s.running)
unfolding is_running shape
is_running-shape s b = refl

-- a worker that is there in the shape
pub worker_below : {A : Type 0} (s : State A) (w : ℕ) (x : Option BlockId)
    → slice_get (shape s).running w ≡ Some x → w < length s.running
unfolding shape
worker_below {A} s w x h = let below : w < length (map (task_block {A = A}) s.running) =
    slice_get-below _ w x h in rw length-map at below

task_at : {A : Type 0} (o : Option (Option (Running A))) (b : BlockId)
    → option_map task_block o ≡ Some (Some b)
    → (r : Running A) × (o ≡ Some (Some r)) × (r.block ≡ b)
task_at (Some (Some r)) b h = (r, refl, cc)
task_at (Some None) b h = absurd (cc)
task_at None b h = absurd (cc)

-- the task of a busy worker
pub busy_task : {A : Type 0} (s : State A) (w : ℕ) (b : BlockId)
    → slice_get (shape s).running w ≡ Some (Some b)
    → (r : Running A) × (slice_get s.running w ≡ Some (Some r)) × (r.block ≡ b)
unfolding shape
busy_task s w b h = task_at (slice_get s.running w) b
    (sym (slice_get-map task_block s.running w) ∙ h)

pub task_busy : {A : Type 0} (s : State A) (w : ℕ) (r : Running A)
    → slice_get s.running w ≡ Some (Some r)
    → slice_get (shape s).running w ≡ Some (Some r.block)
unfolding shape
task_busy s w r h = slice_get-map task_block s.running w ∙ ap (option_map task_block) h

-- what is held has a value
pub held_values : {A : Type 0} (s : State A) (bs : List BlockId)
    → All (λ b. is_held (shape s) b ≡ true) bs → All (λ b. IsSome (held_value s.held b)) bs
held_values {A} s bs a = λ k d below.
    is_some-option_map (λ (h : Held A). h.value) (lookup (same_block (get_or bs k d)) s.held)
    ∙ (sym (is_held-shape s (get_or bs k d)) ∙ a k d below)

pub running-shape : {A : Type 0} (s : State A) → (shape s).running ≡ map task_block s.running
unfolding shape
running-shape s = refl

pub shape-spare : {A : Type 0} (s : State A) (n : ℕ) → shape (record s { spare = n }) ≡ shape s
unfolding shape
shape-spare s n = refl
