-- The phases of a statement that was just added, one after the other.
use Rattle.std.specs.Prelude.{◌≡◌, ◌⊎◌, ℕ, ◌+◌, ◌<◌, ◌≤◌, List, [], ◌∷◌, None, length}
use Rattle.std.specs.List.{AllByRecursion}
use Rattle.gx_cluster_state.specs.Runs.{IsBegun, Point}
use Rattle.gx_exec_contents.specs.PhaseFaults.{AreQuietBelow, fault_in, least_stop}
use Rattle.gx_exec_contents.specs.Worlds.{World}
use Rattle.gx_exec_work.specs.Works.{PlannedWorld, net_in}
use Rattle.gx_lineage.specs.declared.block_id.BlockId.{BlockId}
use Rattle.gx_lineage.specs.declared.node_id.NodeId.{NodeId}
use Rattle.gx_plan.specs.PlanInvariant.{IsFrontOf}
use Rattle.gx_plan.specs.Plans.{Planned, recipe_at}

-- the nodes from number n up to m have no fault of their own: no phase need judge them
pub record AreFaultless (w : World) (p : Planned) (n m : ℕ) : Type 0 where
  pub order : n ≤ m
  pub within : m ≤ length p.lineage.nodes
  pub none : (k : ℕ) → n ≤ k → k < m → fault_in w (recipe_at p.recipes k) ≡ None

-- from node n on: after nodes that have no fault of their own, a phase demands earlier nodes than
-- the next one, or the next one alone; the nodes after the last phase have no fault of their own
abbrev pub AreInOrder : World → Planned → ℕ → List (List NodeId) → Type 0
AreInOrder w p n [] = AreFaultless w p n (length p.lineage.nodes)
AreInOrder w p n (ns ∷ rest) =
    (m : ℕ) × (AreFaultless w p n m
    × ((AllByRecursion (λ k. k.0 < m) ns × AreInOrder w p m rest)
    ⊎ ((ns ≡ record { 0 = m } ∷ []) × AreInOrder w p (m + 1) rest)))

-- these phases are next: no block of a node before number `at` is stopped
pub record AreNext (e : PlannedWorld) (phases : List (List NodeId)) : Type 0 where
  pub at : ℕ
  pub quiet : AreQuietBelow e.world e.planned at
  pub order : AreInOrder e.world e.planned at phases

-- no block before each of these nodes is stopped
abbrev pub MayJudge : PlannedWorld → List NodeId → Type 0
MayJudge e ns = AllByRecursion (λ n. (n.0 < length e.planned.lineage.nodes) × AreQuietBelow e.world e.planned n.0) ns

-- no block of these nodes is stopped
abbrev pub AreUnstopped : PlannedWorld → List NodeId → Type 0
AreUnstopped e ns = AllByRecursion (λ n. least_stop e.world e.planned n ≡ None) ns

-- a cluster took turns of a demand, under each plan that begins with this one
abbrev pub HasDemanded : PlannedWorld → List BlockId → Point → Point → Type 0
HasDemanded e targets before after = (q : Planned) → IsFrontOf e.planned q → IsBegun (net_in e.world q) targets before after
