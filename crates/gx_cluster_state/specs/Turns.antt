-- One turn, and the turns of a demand.
use Rattle.std.specs.Prelude.{
  ◌≡◌,
  ◌≢◌,
  ◌<◌,
  ◌≤◌,
  ◌⊎◌,
  ℕ,
  false,
  List,
  [],
  ◌∷◌,
  None,
  Some,
  is_none,
  is_some,
  length,
  position,
  slice_get,
}
use Rattle.gx_lineage.specs.declared.block_id.BlockId.{BlockId}
use Rattle.gx_cluster_state.specs.declared.event.Event.{Event}
use Rattle.gx_cluster_state.specs.declared.event.Event.TheVariants.{Start, Finish, Lose, Next}
use Rattle.gx_cluster_state.specs.Nets.{Net, IsLeastReady, IsStuck}
use Rattle.gx_cluster_state.specs.Shapes.{Shape, all_held, finished, lost, started, with_nothing}

-- worker w is idle, and starts the least ready block b
pub record Starts (n : Net) (targets : List BlockId) (s : Shape) (w : ℕ) (b : BlockId)
    (new : Shape) : Type 0 where
  pub idle : slice_get s.running w ≡ Some None
  pub least : IsLeastReady n targets s b
  pub is : new ≡ started s w b

-- worker w runs b, and finishes it
pub record Finishes (n : Net) (s : Shape) (w : ℕ) (b : BlockId) (new : Shape) : Type 0 where
  pub busy : slice_get s.running w ≡ Some (Some b)
  pub is : new ≡ finished s w b (n.freight b)

-- the first idle worker starts the least ready block
pub record FirstStarts (n : Net) (targets : List BlockId) (s new : Shape) : Type 0 where
  pub worker : ℕ
  pub block : BlockId
  pub first : position is_none s.running ≡ Some worker
  pub starts : Starts n targets s worker block new

-- no worker is idle or no block is ready, and the first busy worker finishes
pub record FirstFinishes (n : Net) (targets : List BlockId) (s new : Shape) : Type 0 where
  pub no_start : (position is_none s.running ≡ None) ⊎ IsStuck n targets s
  pub worker : ℕ
  pub block : BlockId
  pub first : position is_some s.running ≡ Some worker
  pub finishes : Finishes n s worker block new

-- what an event does; an event that can do nothing is logged as such
abbrev pub Turn : Net → List BlockId → Shape → Event → Shape → Type 0
Turn n targets s (Start w) new =
    ((b : BlockId) × Starts n targets s w b new)
    ⊎ (((slice_get s.running w ≢ Some None) ⊎ IsStuck n targets s) × (new ≡ with_nothing s w))
Turn n targets s (Finish w) new =
    ((b : BlockId) × Finishes n s w b new)
    ⊎ (((b : BlockId) → slice_get s.running w ≢ Some (Some b)) × (new ≡ with_nothing s w))
Turn n targets s (Lose w) new =
    ((w < length s.running) × (new ≡ lost s w))
    ⊎ ((length s.running ≤ w) × (new ≡ with_nothing s w))
Turn n targets s Next new = FirstStarts n targets s new ⊎ FirstFinishes n targets s new

-- the event of a turn: the next of the schedule, or `Next` if none is left
abbrev pub coming : List Event → Event
coming [] = Next
coming (e ∷ es) = e

-- the events left after it
abbrev pub remaining : List Event → List Event
remaining [] = []
remaining (e ∷ es) = es

-- turns that lead from a shape and a schedule to the last shape and the events left; each turn is
-- taken only while a target is
-- not held
pub data Turns (n : Net) (targets : List BlockId) (last : Shape) (left : List Event) : Shape
    → List Event → Type 0 where
  ended : Turns n targets last left last left
  taken : {s new : Shape} {es : List Event} → all_held s targets ≡ false
      → Turn n targets s (coming es) new
      → Turns n targets last left new (remaining es) → Turns n targets last left s es
