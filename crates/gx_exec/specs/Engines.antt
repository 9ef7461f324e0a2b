-- The state of an engine and its cluster between calls.
use Rattle.std.specs.Prelude.{◌≡◌, ℕ, ◌-◌, ◌≤◌, ⊤, List, Option, None, Some, Result, Ok, Err, length, slice_get}
use Rattle.std.specs.List.{AllByRecursion}
use Rattle.std.specs.Option.{option_and_then}
use Rattle.gx_cluster.specs.States.{HoldsContents, State, shape}
use Rattle.gx_cluster_state.specs.Runs.{Point}
use Rattle.gx_cluster_state.specs.declared.event.Event.{Event}
use Rattle.gx_exec_contents.specs.PhaseFaults.{AreQuietBelow}
use Rattle.gx_exec_contents.specs.Worlds.{loaded_in, source_of}
use Rattle.gx_exec_work.specs.Works.{IsContentOf, PlannedWorld}
use Rattle.gx_exec_work.specs.declared.block.Block.{Block}
use Rattle.gx_model.specs.ActionAnswers.{Answer, answer_of_stmt}
use Rattle.gx_model.specs.ScriptMeaning.{Loaded, fault_of_number, plain_values, stmts_in}
use Rattle.gx_plan.specs.Plans.{IsAdded, with_number}
use Rattle.gx_plan.specs.StmtNodes.{statement_of}
use Rattle.gx_rows.specs.declared.fault.Fault.{Fault}
use Rattle.gx_types_stmts.specs.StmtNumbers.{named_numbers}
use Rattle.gx_exec.specs.declared.run_stop.RunStop.{RunStop}
use Rattle.gx_exec.specs.declared.run_stop.RunStop.TheVariants as run_stop

-- what statement s prints, if it is an action
abbrev pub action_answer : Loaded → ℕ → Option Answer
action_answer l s = option_and_then (answer_of_stmt l.checked (plain_values l)) (slice_get (stmts_in l) (s - 1))

-- no fault, or the fault; memory may run out instead
abbrev pub ForcesTo : {A : Type 0} → Result A RunStop → Option Fault → Type 0
ForcesTo (Ok x) fault = fault ≡ None
ForcesTo (Err (run_stop.Fault f)) fault = fault ≡ Some f
ForcesTo (Err run_stop.NoMemory) fault = ⊤

-- no block of the plan is stopped
abbrev pub AreQuiet : PlannedWorld → Type 0
AreQuiet e = AreQuietBelow e.world e.planned (length e.planned.lineage.nodes)

-- no block of the plan is stopped, and no statement that was added has a fault
pub record IsSteady (e : PlannedWorld) : Type 0 where
  pub quiet : AreQuiet e
  pub clean : (s : ℕ) → IsAdded e.planned s → fault_of_number (loaded_in e.world) s ≡ None

-- each block that the cluster holds or has captured is a content
abbrev pub HoldsWorkOf : PlannedWorld → State Block → Type 0
HoldsWorkOf e c = HoldsContents (IsContentOf e) e.planned.lineage c

-- a cluster, and the events of the schedule that are left
abbrev pub point_of : State Block → List Event → Point
point_of c es = record { shape = shape c; events = es }

-- statement s, counted from 1, of which all named statements were added
pub record MayForce (e : PlannedWorld) (s : ℕ) : Type 0 where
  pub from_one : 1 ≤ s
  pub within : s ≤ length e.world.script
  pub named : AllByRecursion (IsAdded e.planned) (named_numbers (statement_of e.world.script s))

-- the engine with statement s in its plan
abbrev pub with_stmt : PlannedWorld → ℕ → PlannedWorld
with_stmt e s = record { world = e.world; planned = with_number (source_of e.world) e.planned s }
