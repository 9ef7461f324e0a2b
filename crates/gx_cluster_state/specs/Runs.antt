-- Runs of commands, and runs under a larger net.
use Rattle.std.specs.Prelude.{
  ◌≡◌,
  ◌⊎◌,
  ℕ,
  true,
  List,
  [],
  ◌∷◌,
  ◌++◌,
  Some,
  All,
  Contains,
  slice_get,
}
use Rattle.gx_lineage.specs.declared.block_id.BlockId.{BlockId}
use Rattle.gx_lineage.specs.declared.node_id.NodeId.{NodeId}
use Rattle.gx_cluster_state.specs.declared.event.Event.{Event}
use Rattle.gx_cluster_state.specs.declared.log_entry.LogEntry.{LogEntry}
use Rattle.gx_cluster_state.specs.Nets.{Net}
use Rattle.gx_cluster_state.specs.Shapes.{Shape, all_held, released}
use Rattle.gx_cluster_state.specs.Turns.{Turns}

-- what a cluster is told to do: to hold all of some blocks, or to release a node
pub data Command : Type 0 where
  Demand : (targets : List BlockId) → Command
  Release : (node : NodeId) → Command

-- the targets of each demand are in the net
abbrev pub TargetsAreIn : Net → List Command → Type 0
TargetsAreIn n [] = Unit
TargetsAreIn n (Demand targets ∷ cs) = All n.has targets × TargetsAreIn n cs
TargetsAreIn n (Release node ∷ cs) = TargetsAreIn n cs

-- a cluster, and the events of the schedule that are left
pub record Point : Type 0 where
  pub shape : Shape
  pub events : List Event

-- turns that end with all targets held
pub record IsMet (n : Net) (targets : List BlockId) (p q : Point) : Type 0 where
  pub inside : All n.has targets
  pub turns : Turns n targets q.shape q.events p.shape p.events
  pub held : all_held q.shape targets ≡ true

-- turns that may have stopped before all targets are held
pub record IsBegun (n : Net) (targets : List BlockId) (p q : Point) : Type 0 where
  pub inside : All n.has targets
  pub turns : Turns n targets q.shape q.events p.shape p.events

-- a command is carried out whole
abbrev pub Step : Net → Command → Point → Point → Type 0
Step n (Demand targets) p q = IsMet n targets p q
Step n (Release node) p q = (q.shape ≡ released p.shape node) × (q.events ≡ p.events)

-- commands are carried out, in order
abbrev pub Run : Net → List Command → Point → Point → Type 0
Run n [] p q = q ≡ p
Run n (c ∷ cs) p q = (m : Point) × Step n c p m × Run n cs m q

-- a command is begun, and maybe not carried out whole
abbrev pub Part : Net → Command → Point → Point → Type 0
Part n (Demand targets) p q = (q ≡ p) ⊎ IsBegun n targets p q
Part n (Release node) p q = q ≡ p

-- a run that may have stopped part-way
abbrev pub Passes : Net → List Command → Point → Point → Type 0
Passes n [] p q = q ≡ p
Passes n (c ∷ cs) p q = Part n c p q ⊎ ((m : Point) × Step n c p m × Passes n cs m q)

-- each running block is in the net
abbrev pub RunsIn : Net → Shape → Type 0
RunsIn n s = (w : ℕ) (b : BlockId) → slice_get s.running w ≡ Some (Some b) → n.has b

-- m has the blocks of n, with the same inputs, which n has too, and the same freight
pub record Grows (n m : Net) : Type 0 where
  pub has : (b : BlockId) → n.has b → m.has b
  pub inputs : (b : BlockId) → n.has b → m.inputs b ≡ n.inputs b
  pub closed : (b c : BlockId) → n.has b → Contains (n.inputs b) c → n.has c
  pub freight : (b : BlockId) → n.has b → m.freight b ≡ n.freight b

-- the second log is the first with more entries
abbrev pub LogExtends : List LogEntry → List LogEntry → Type 0
LogExtends old new = (more : List LogEntry) × (new ≡ old ++ more)
