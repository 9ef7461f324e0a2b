-- What the cluster of a run did: it carried out the course of the script's actions, as far as the
-- status of the run says.
use Rattle.std.specs.Prelude.{◌≡◌, ◌⊎◌, ℕ, ◌+◌, ◌<◌, List, [], length, replicate, take, Option, None, Some, Ok, ⊤}
use Rattle.gx_cluster.specs.States.{State}
use Rattle.gx_cluster_state.specs.Runs.{Passes, Point, Run}
use Rattle.gx_cluster_state.specs.declared.event.Event.{Event}
use Rattle.gx_exec.specs.Courses.{Course, answered_all}
use Rattle.gx_exec.specs.Engines.{HoldsWorkOf, IsSteady, point_of}
use Rattle.gx_exec_contents.specs.Worlds.{World, loaded_in}
use Rattle.gx_exec_work.specs.Works.{PlannedWorld, net_in}
use Rattle.gx_exec_work.specs.declared.block.Block.{Block}
use Rattle.gx_model.specs.ScriptMeaning.{Loaded}
use Rattle.gx_outside.specs.Contents.{Contents}
use Rattle.gx_plan.specs.Plans.{Planned, empty_plan}
use Rattle.gx_print.specs.declared.status.Status.{Status}
use Rattle.gx_print.specs.declared.status.Status.TheVariants as status
use Rattle.gx_rows.specs.declared.fault.Fault.{Fault}
use Rattle.gx_run.specs.ActionLogs.{StopsInText, actions_of, texts_of}
use Rattle.gx_run.specs.Meaning.{loaded_under}
use Rattle.gx_run_args.specs.RunCommands.{RunCommand}

-- ---- what a run is to do

-- the script and the rows that were loaded, in the parts and by the cut of the command
abbrev pub world_of : RunCommand → Loaded → World
world_of c l = record { script = l.checked; loads = l.loads; parts = c.parts; cut = c.cut }

-- what these actions add to an empty plan and demand
abbrev pub course_by : RunCommand → Loaded → List ℕ → Course
course_by c l actions = answered_all (world_of c l) (empty_plan c.parts (length l.checked)) actions

-- the course of all actions
abbrev pub course_of : RunCommand → Loaded → Course
course_of c l = course_by c l (actions_of l)

-- the course of the first n actions
abbrev pub course_of_first : ℕ → RunCommand → Loaded → Course
course_of_first n c l = course_by c l (take n (actions_of l))

-- idle workers that hold nothing, an empty log, and no events
abbrev pub start_of : RunCommand → Point
start_of c = record { shape = record { held = []; running = replicate c.workers None; log = [] }; events = [] }

-- ---- what a cluster did

-- the cluster carried out all commands of a course, which ended with this fault or with none, and each
-- block that it holds is its content in the plan of the course
pub record CarriesOut (w : World) (c : Course) (end : Option Fault) (start : Point)
    (cluster : State Block) : Type 0 where
  pub fault : c.fault ≡ end
  -- the events that are left
  pub left : List Event
  pub run : Run (net_in w c.planned) c.commands start (point_of cluster left)
  pub contents : HoldsWorkOf (record { world = w; planned = c.planned }) cluster

-- it may have stopped part-way, and each block that it holds is its content in some plan
pub record CarriesOutPart (w : World) (c : Course) (start : Point) (cluster : State Block) : Type 0 where
  pub left : List Event
  pub run : Passes (net_in w c.planned) c.commands start (point_of cluster left)
  pub planned : Planned
  pub contents : HoldsWorkOf (record { world = w; planned = planned }) cluster

-- ---- logs of a run

-- if the contents of the files are known, the script of this command and its files were loaded as this
abbrev pub LoadsAs : Option Contents → RunCommand → Loaded → Type 0
LoadsAs None c l = ⊤
LoadsAs (Some contents) c l = loaded_under c contents ≡ Ok l

-- all actions were answered, or all up to the first that has a fault, which is this
abbrev pub LogsAll : RunCommand → Option Contents → Option Fault → State Block → Type 0
LogsAll c contents end cluster =
    (l : Loaded) × LoadsAs contents c l
    × CarriesOut (world_of c l) (course_of c l) end (start_of c) cluster

-- the actions up to one were answered, and a proper prefix of its text was written after the texts before it
abbrev pub LogsFirst : RunCommand → Option Contents → Option (List ℕ) → Option (List ℕ) → State Block → Type 0
LogsFirst c contents before after cluster =
    (l : Loaded) × (whole : ℕ) × LoadsAs contents c l × (whole < length (actions_of l))
    × CarriesOut (world_of c l) (course_of_first (whole + 1) c l) None (start_of c) cluster
    × StopsInText (texts_of l) whole before after

-- the actions were being answered
abbrev pub LogsPart : RunCommand → Option Contents → State Block → Type 0
LogsPart c contents cluster =
    (l : Loaded) × LoadsAs contents c l × CarriesOutPart (world_of c l) (course_of c l) (start_of c) cluster

-- What a run with this command did, by its status: what was written before and after, and the cluster
-- before and after
abbrev pub LogEnds : RunCommand → Option Contents → Status → Option (List ℕ) → Option (List ℕ) → State Block → State Block → Type 0
LogEnds c contents status.Done before after old new = LogsAll c contents None new
LogEnds c contents status.Usage before after old new = ⊥
LogEnds c contents (status.Script stop) before after old new = new ≡ old
LogEnds c contents (status.Schedule line) before after old new = ⊥
LogEnds c contents (status.Data stop) before after old new = new ≡ old
LogEnds c contents (status.Fault fault) before after old new = LogsAll c contents (Some fault) new
LogEnds c contents (status.Limit kind) before after old new = new ≡ old
LogEnds c contents (status.Source name) before after old new = new ≡ old
LogEnds c contents status.Sink before after old new = LogsFirst c contents before after new
LogEnds c contents status.NoMemory before after old new = (new ≡ old) ⊎ LogsPart c contents new

-- the same of a run with these arguments, if they are a command, or with others; the clauses of the
-- top call take this apart
abbrev pub RunLogs : Option RunCommand → Option Contents → Status → Option (List ℕ) → Option (List ℕ) → State Block → State Block → Type 0
RunLogs None contents end before after old new = (end ≡ status.Usage) × (new ≡ old)
RunLogs (Some c) contents end before after old new = LogEnds c contents end before after old new

-- ---- on the way

-- the engine of what was loaded, in which no statement was added
pub record IsFreshEngine (c : RunCommand) (e : PlannedWorld) : Type 0 where
  pub world : e.world ≡ world_of c (loaded_in e.world)
  pub planned : e.planned ≡ empty_plan c.parts (length e.world.script)
  pub steady : IsSteady e

-- that engine, and a cluster of idle workers that holds nothing
pub record IsStart (c : RunCommand) (e : PlannedWorld) (cluster : State Block) : Type 0 where
  pub engine : IsFreshEngine c e
  pub idle : cluster ≡ record { held = []; running = replicate c.workers None; log = []; spare = 0 }
