-- What the calls of an engine add to its plan and demand of a cluster, and the fault at which they end.
use Rattle.std.specs.Prelude.{◌≡◌, ℕ, ◌-◌, Bool, if◌then◌else◌, List, [], ◌∷◌, ◌++◌, Option, None, Some, flat_map, get_or, is_some, option_map}
use Rattle.std.specs.List.{range_with_len}
use Rattle.gx_cluster_state.specs.Runs.{Command, Demand, Passes, Point, Run}
use Rattle.gx_exec_contents.specs.PartContents.{first_given}
use Rattle.gx_exec_contents.specs.PhaseFaults.{fault_in, fault_of_stop}
use Rattle.gx_exec_contents.specs.Worlds.{World, source_of}
use Rattle.gx_exec_work.specs.Works.{net_in}
use Rattle.gx_lineage.specs.Lineage.{blocks_at}
use Rattle.gx_lineage.specs.declared.block_id.BlockId.{BlockId}
use Rattle.gx_lineage.specs.declared.node_id.NodeId.{NodeId}
use Rattle.gx_model.specs.NamesUsed.{stmts_used}
use Rattle.gx_plan.specs.PlanInvariant.{IsFrontOf}
use Rattle.gx_plan.specs.Plans.{Planned, phases_of, recipe_at, with_number}
use Rattle.gx_rows.specs.declared.fault.Fault.{Fault}
use Rattle.gx_exec.specs.declared.run_stop.RunStop.{RunStop}
use Rattle.gx_exec.specs.declared.run_stop.RunStop.TheVariants as run_stop

-- the plan that is left, what the cluster was told to do, and the fault that ended it, if one did
pub record Course : Type 0 where
  pub planned : Planned
  pub commands : List Command
  pub fault : Option Fault

-- nothing is done
abbrev pub still : Planned → Course
still p = record { planned = p; commands = []; fault = None }

abbrev pub joined : Option Fault → Course → Course → Course
joined (Some f) a b = a
joined None a b = record { planned = b.planned; commands = a.commands ++ b.commands; fault = b.fault }

-- one course and, if it ends without a fault, the other after it
abbrev pub and_then : Course → (Planned → Course) → Course
and_then a b = joined a.fault a (b a.planned)

-- ---- one statement

-- all blocks of these nodes
abbrev pub targets_of : World → List NodeId → List BlockId
targets_of w ns = flat_map (λ n. blocks_at n (range_with_len 0 w.parts)) ns

-- the fault of statement s at these nodes
abbrev pub fault_of_phase : World → Planned → ℕ → List NodeId → Option Fault
fault_of_phase w p s ns = option_map (fault_of_stop s) (first_given (λ n. fault_in w (recipe_at p.recipes n.0)) ns)

-- all blocks of these nodes are demanded, and judged
abbrev pub phase : World → ℕ → List NodeId → Planned → Course
phase w s ns p = record { planned = p; commands = Demand (targets_of w ns) ∷ []; fault = fault_of_phase w p s ns }

-- phase by phase, up to the first with a fault
abbrev pub phases : World → ℕ → List (List NodeId) → Planned → Course
phases w s [] p = still p
phases w s (ns ∷ rest) p = and_then (phase w s ns p) (phases w s rest)

abbrev pub was_added : Planned → ℕ → Bool
was_added p s = is_some (get_or p.results (s - 1) None)

-- statement s is added, and its phases are gone through; nothing is done if it was added before
abbrev pub forced : World → Planned → ℕ → Course
forced w p s =
    if was_added p s then still p
    else phases w s (phases_of w.script (with_number (source_of w) p s) s)
    (with_number (source_of w) p s)

-- ---- several statements

-- these statements in order
abbrev pub forced_all : World → Planned → List ℕ → Course
forced_all w p [] = still p
forced_all w p (s ∷ ss) = and_then (forced w p s) (λ q. forced_all w q ss)

-- what action a uses, in script order, and then the action
abbrev pub answered : World → Planned → ℕ → Course
answered w p a = and_then (forced_all w p (stmts_used w.script a)) (λ q. forced w q a)

-- these actions in order
abbrev pub answered_all : World → Planned → List ℕ → Course
answered_all w p [] = still p
answered_all w p (a ∷ actions) = and_then (answered w p a) (λ q. answered_all w q actions)

-- ---- the cluster's run of a course

-- the cluster went from one point to the other by the commands of the course, under each plan that begins with what it left
abbrev pub RunsAs : World → Course → Point → Point → Type 0
RunsAs w c before after = (q : Planned) → IsFrontOf c.planned q → Run (net_in w q) c.commands before after

-- the same, and it may have stopped part-way
abbrev pub PassesAs : World → Course → Point → Point → Type 0
PassesAs w c before after = (q : Planned) → IsFrontOf c.planned q → Passes (net_in w q) c.commands before after

-- the course was gone through up to this fault or to its end, and left this plan
pub record EndsAs (w : World) (c : Course) (end : Option Fault) (left : Planned) (before after : Point) : Type 0 where
  pub fault : c.fault ≡ end
  pub planned : left ≡ c.planned
  pub run : RunsAs w c before after

-- the course ended with this stop
abbrev pub StopsAs : RunStop → World → Course → Planned → Point → Point → Type 0
StopsAs (run_stop.Fault f) w c left before after = EndsAs w c (Some f) left before after
StopsAs run_stop.NoMemory w c left before after = PassesAs w c before after
