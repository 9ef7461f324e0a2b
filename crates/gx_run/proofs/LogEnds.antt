-- From what was done for the actions to the log of a run, and from that to the clauses of the top call.
use Rattle.std.proofs.Common.{◌≡◌, ◌≢◌, ◌⊎◌, inl, inr, ℕ, zero, suc, ◌+◌, ◌-◌, false, List, [], ◌∷◌, length, map, get_or, replicate, take, Option, None, Some, Result, Ok, Err, refl, sym, ◌∙◌, ap, subst}
use Rattle.std.specs.Prelude.{IsSomeAnd, is_some, slice_get}
use Rattle.gx_cluster.specs.States.{State, shape}
use Rattle.gx_cluster_state.specs.Runs.{Point}
use Rattle.gx_cluster_state.specs.declared.event.Event.{Event}
use Rattle.gx_cluster_state.specs.Tasks.{task_block}
use Rattle.gx_exec.specs.Courses.{Course, EndsAs, PassesAs, answered_all, was_added}
use Rattle.gx_exec.specs.Engines.{HoldsWorkOf, point_of}
use Rattle.gx_exec_contents.specs.Worlds.{World, loaded_in}
use Rattle.gx_exec_work.specs.Works.{PlannedWorld, net_in}
use Rattle.gx_exec_work.specs.declared.block.Block.{Block}
use Rattle.gx_model.specs.ScriptMeaning.{Loaded}
use Rattle.gx_outside.specs.Contents.{Contents}
use Rattle.gx_plan.specs.Plans.{Planned, empty_plan}
use Rattle.gx_print.specs.ExitCodes.{exit_code}
use Rattle.gx_print.specs.StatusLines.{has_fixed_text}
use Rattle.gx_print.specs.declared.status.Status.{Status}
use Rattle.gx_print.specs.declared.status.Status.TheVariants as status
use Rattle.gx_rows.specs.declared.fault.Fault.{Fault}
use Rattle.gx_run.specs.ActionLogs.{LogsAs, MayAnswerFrom, actions_of, moment_of, texts_of}
use Rattle.gx_run.specs.Meaning.{loaded_under}
use Rattle.gx_run.specs.RunLogs.{CarriesOut, CarriesOutPart, IsStart, LoadsAs, LogEnds, LogsAll, LogsPart, RunLogs, course_by, start_of, world_of}
use Rattle.gx_run.specs.Steps.{Reads, Refuses, RefusesUnknown}
use Rattle.gx_exec.specs.CourseRunLaws.{front-same, passes-all}
use Rattle.gx_run_args.specs.RunCommands.{RunCommand}

-- ---- before the first action

none_in : {A : Type 0} (n i : ℕ) → get_or (replicate {A = Option A} n None) i None ≡ None
none_in zero i = refl
none_in (suc n) zero = refl
none_in (suc n) (suc i) = none_in n i

idle_worker : {A : Type 0} (n i : ℕ) (x : A) → slice_get (replicate {A = Option A} n None) i ≡ Some (Some x) → ⊥
idle_worker zero i x h = absurd (cc h)
idle_worker (suc n) zero x h = absurd (cc h)
idle_worker (suc n) (suc i) x h = idle_worker n i x h

idle_tasks : (n : ℕ) → map (task_block {A = Block}) (replicate n None) ≡ replicate n None
idle_tasks zero = refl
idle_tasks (suc n) = ap (λ xs. None ∷ xs) (idle_tasks n)

abbrev idle_state : ℕ → State Block
idle_state n = record { held = []; running = replicate n None; log = []; spare = 0 }

idle_holds : (e : PlannedWorld) (n : ℕ) → HoldsWorkOf e (idle_state n)
idle_holds e n = record {
  held = λ b h is. absurd (cc is);
  blocks = λ w r is. absurd (idle_worker n w r is);
  inputs = λ w r is. absurd (idle_worker n w r is);
}

pub start_may_answer : (c : RunCommand) (e : PlannedWorld) (cluster : State Block) → IsStart c e cluster → MayAnswerFrom 1 e cluster
start_may_answer c e cluster h = record {
  steady = h.engine.steady;
  contents = subst (HoldsWorkOf e) (sym h.idle) (idle_holds e c.workers);
  fresh = λ n from. subst (λ (p : Planned). was_added p n ≡ false) (sym h.engine.planned) (ap is_some (none_in (length e.world.script) (n - 1)));
}

start_point : (c : RunCommand) → point_of (idle_state c.workers) [] ≡ start_of c
unfolding shape
start_point c = ap (λ running. record { shape = record { held = []; running = running; log = [] }; events = [] }) (idle_tasks c.workers)

-- ---- what the cluster did

carried_out : (w : World) (c : Course) (stop : Option Fault) (left : PlannedWorld) (start : Point) (cluster : State Block)
    (events : List Event) → left.world ≡ w → HoldsWorkOf left cluster → EndsAs w c stop left.planned start (point_of cluster events) → CarriesOut w c stop start cluster
carried_out w c stop left start cluster events same holds h = record {
  fault = h.fault;
  left = events;
  run = h.run c.planned (front-same c.planned);
  contents =
      subst (λ (p : Planned). HoldsWorkOf (record { world = w; planned = p }) cluster) h.planned
      (subst (λ (v : World). HoldsWorkOf (record { world = v; planned = left.planned }) cluster) same holds);
}

carried_out_part : (w : World) (c : Course) (left : PlannedWorld) (start : Point) (cluster : State Block)
    (events : List Event) → left.world ≡ w → HoldsWorkOf left cluster → PassesAs w c start (point_of cluster events) → CarriesOutPart w c start cluster
carried_out_part w c left start cluster events same holds h = record {
  left = events;
  run = h c.planned (front-same c.planned);
  planned = left.planned;
  contents = subst (λ (v : World). HoldsWorkOf (record { world = v; planned = left.planned }) cluster) same holds;
}

part_of_all : (w : World) (c : Course) (end : Option Fault) (start : Point) (cluster : State Block) → CarriesOut w c end start cluster → CarriesOutPart w c start cluster
part_of_all w c end start cluster h = record {
  left = h.left;
  run = passes-all (net_in w c.planned) c.commands start (point_of cluster h.left) h.run;
  planned = c.planned;
  contents = h.contents;
}

-- from the start of this command
from_start : (P : World → Course → Point → Type 0) (c : RunCommand) (e : PlannedWorld) (cluster : State Block) (actions : List ℕ)
    → IsStart c e cluster → P e.world (answered_all e.world e.planned actions) (point_of cluster [])
    → P (world_of c (loaded_in e.world)) (course_by c (loaded_in e.world) actions) (start_of c)
from_start P c e cluster actions h k =
    let l = loaded_in e.world in
    let at : P e.world (answered_all e.world e.planned actions) (start_of c) =
    subst (P e.world (answered_all e.world e.planned actions)) (ap (λ s. point_of s []) h.idle ∙ start_point c) k in
    let planned : P e.world (answered_all e.world (empty_plan c.parts (length l.checked)) actions) (start_of c) =
    subst (λ (p : Planned). P e.world (answered_all e.world p actions) (start_of c)) h.engine.planned at in
    subst (λ (w : World). P w (answered_all w (empty_plan c.parts (length l.checked)) actions) (start_of c)) h.engine.world planned

loads_as : (contents : Option Contents) (c : RunCommand) (a b : ℕ) (e : PlannedWorld)
    → Reads contents a b (λ (x : PlannedWorld). loaded_in x.world) (Ok e) (loaded_under c) → LoadsAs contents c (loaded_in e.world)
loads_as None c a b e h = tt
loads_as (Some held) c a b e h = h

-- ---- the end of a run

logged_ends : (contents : Option Contents) (c : RunCommand) (a b : ℕ) (e left : PlannedWorld) (start cluster old : State Block) (events : List Event) (end : Status) (before after : Option (List ℕ))
    → Reads contents a b (λ (x : PlannedWorld). loaded_in x.world) (Ok e) (loaded_under c) → IsStart c e start
    → left.world ≡ e.world → HoldsWorkOf left cluster
    → LogsAs e.world (actions_of (loaded_in e.world)) (texts_of (loaded_in e.world)) end (moment_of e start [] before) (moment_of left cluster events after)
    → LogEnds c contents end before after old cluster
logged_ends contents c a b e left start cluster old events status.Done before after r s same holds h = (
  loaded_in e.world,
  loads_as contents c a b e r,
  from_start (λ w d p. CarriesOut w d None p cluster) c e start (actions_of (loaded_in e.world)) s
      (carried_out e.world (answered_all e.world e.planned (actions_of (loaded_in e.world))) None left (point_of start []) cluster events same holds h),
)
logged_ends contents c a b e left start cluster old events status.Usage before after r s same holds h = h
logged_ends contents c a b e left start cluster old events (status.Script stop) before after r s same holds h = absurd h
logged_ends contents c a b e left start cluster old events (status.Schedule line) before after r s same holds h = h
logged_ends contents c a b e left start cluster old events (status.Data stop) before after r s same holds h = absurd h
logged_ends contents c a b e left start cluster old events (status.Fault fault) before after r s same holds h = (
  loaded_in e.world,
  loads_as contents c a b e r,
  from_start (λ w d p. CarriesOut w d (Some fault) p cluster) c e start (actions_of (loaded_in e.world)) s
      (carried_out e.world (answered_all e.world e.planned (actions_of (loaded_in e.world))) (Some fault) left (point_of start []) cluster events same holds h),
)
logged_ends contents c a b e left start cluster old events (status.Limit kind) before after r s same holds h = absurd h
logged_ends contents c a b e left start cluster old events (status.Source name) before after r s same holds h = absurd h
logged_ends contents c a b e left start cluster old events status.Sink before after r s same holds h = (
  loaded_in e.world,
  h.whole,
  loads_as contents c a b e r,
  h.within,
  from_start (λ w d p. CarriesOut w d None p cluster) c e start (take (h.whole + 1) (actions_of (loaded_in e.world))) s
      (carried_out e.world (answered_all e.world e.planned (take (h.whole + 1) (actions_of (loaded_in e.world)))) None left (point_of start []) cluster events same holds h.course),
  h.text,
)
logged_ends contents c a b e left start cluster old events status.NoMemory before after r s same holds h =
    inr (
      loaded_in e.world,
      loads_as contents c a b e r,
      from_start (λ w d p. CarriesOutPart w d p cluster) c e start (actions_of (loaded_in e.world)) s
          (carried_out_part e.world (answered_all e.world e.planned (actions_of (loaded_in e.world))) left (point_of start []) cluster events same holds h),
    )

-- the same, from a schedule in which no event is left
pub logged_from : (contents : Option Contents) (c : RunCommand) (a b : ℕ) (e left : PlannedWorld) (start cluster old : State Block) (first events : List Event) (end : Status) (before after : Option (List ℕ))
    → first ≡ [] → Reads contents a b (λ (x : PlannedWorld). loaded_in x.world) (Ok e) (loaded_under c) → IsStart c e start
    → left.world ≡ e.world → HoldsWorkOf left cluster
    → LogsAs e.world (actions_of (loaded_in e.world)) (texts_of (loaded_in e.world)) end (moment_of e start first before) (moment_of left cluster events after)
    → LogEnds c contents end before after old cluster
logged_from contents c a b e left start cluster old first events end before after none r s same holds h =
    logged_ends contents c a b e left start cluster old events end before after r s same holds
    (subst (λ es. LogsAs e.world (actions_of (loaded_in e.world)) (texts_of (loaded_in e.world)) end (moment_of e start es before) (moment_of left cluster events after)) none h)

-- ---- refusals

refused_unknown_logs : (c : RunCommand) (counted : Type 0) (s : Status) (before after : Option (List ℕ)) (old new : State Block)
    → RefusesUnknown counted s → new ≡ old → LogEnds c None s before after old new
refused_unknown_logs c counted status.Done before after old new h same = absurd h
refused_unknown_logs c counted status.Usage before after old new h same = h
refused_unknown_logs c counted (status.Script stop) before after old new h same = same
refused_unknown_logs c counted (status.Schedule line) before after old new h same = h
refused_unknown_logs c counted (status.Data stop) before after old new h same = same
refused_unknown_logs c counted (status.Fault fault) before after old new h same = absurd h
refused_unknown_logs c counted (status.Limit kind) before after old new h same = same
refused_unknown_logs c counted (status.Source name) before after old new h same = same
refused_unknown_logs c counted status.Sink before after old new h same = absurd h
refused_unknown_logs c counted status.NoMemory before after old new h same = inl same

refused_known_logs : (c : RunCommand) (held : Contents) (counted : Type 0) (d : Result Loaded Status) (s : Status) (before after : Option (List ℕ)) (old new : State Block)
    → Refuses counted s d → new ≡ old → LogEnds c (Some held) s before after old new
refused_known_logs c held counted d status.Done before after old new h same = absurd h
refused_known_logs c held counted d status.Usage before after old new h same = h
refused_known_logs c held counted d (status.Script stop) before after old new h same = same
refused_known_logs c held counted d (status.Schedule line) before after old new h same = h
refused_known_logs c held counted d (status.Data stop) before after old new h same = same
refused_known_logs c held counted d (status.Fault fault) before after old new h same = absurd h
refused_known_logs c held counted d (status.Limit kind) before after old new h same = same
refused_known_logs c held counted d (status.Source name) before after old new h same = same
refused_known_logs c held counted d status.Sink before after old new h same = absurd h
refused_known_logs c held counted d status.NoMemory before after old new h same = inl same

pub refused_logs : (contents : Option Contents) (c : RunCommand) (a b : ℕ) (s : Status) (before after : Option (List ℕ)) (old new : State Block)
    → Reads contents a b (λ (x : PlannedWorld). loaded_in x.world) (Err s) (loaded_under c) → new ≡ old
    → LogEnds c contents s before after old new
refused_logs None c a b s before after old new r same = refused_unknown_logs c _ s before after old new r same
refused_logs (Some held) c a b s before after old new r same = refused_known_logs c held _ _ s before after old new r same

-- ---- memory for the text of the end ran out

all_is_part : (c : RunCommand) (contents : Option Contents) (end : Option Fault) (cluster : State Block) → LogsAll c contents end cluster → LogsPart c contents cluster
all_is_part c contents end cluster h =
    (h.0, h.1, part_of_all (world_of c h.0) (course_by c h.0 (actions_of h.0)) end (start_of c) cluster h.2)

no_memory_instead : (c : RunCommand) (contents : Option Contents) (end : Status) (before after : Option (List ℕ)) (old new : State Block)
    → has_fixed_text end ≡ false → LogEnds c contents end before after old new → LogEnds c contents status.NoMemory before after old new
no_memory_instead c contents status.Done before after old new f h = absurd (cc f)
no_memory_instead c contents status.Usage before after old new f h = absurd (cc f)
no_memory_instead c contents (status.Script stop) before after old new f h = inl h
no_memory_instead c contents (status.Schedule line) before after old new f h = absurd h
no_memory_instead c contents (status.Data stop) before after old new f h = inl h
no_memory_instead c contents (status.Fault fault) before after old new f h = inr (all_is_part c contents (Some fault) new h)
no_memory_instead c contents (status.Limit kind) before after old new f h = inl h
no_memory_instead c contents (status.Source name) before after old new f h = inl h
no_memory_instead c contents status.Sink before after old new f h = absurd (cc f)
no_memory_instead c contents status.NoMemory before after old new f h = absurd (cc f)

pub told_logs : (command : Option RunCommand) (contents : Option Contents) (end told : Status) (before after : Option (List ℕ)) (old new : State Block)
    → (told ≡ end) ⊎ ((told ≡ status.NoMemory) × (has_fixed_text end ≡ false))
    → RunLogs command contents end before after old new → RunLogs command contents told before after old new
told_logs None contents end told before after old new (inl same) h = (same ∙ h.0, h.1)
told_logs None contents end told before after old new (inr none) h = absurd (cc (h.0, none.1))
told_logs (Some c) contents end told before after old new (inl same) h =
    subst (λ s. LogEnds c contents s before after old new) (sym same) h
told_logs (Some c) contents end told before after old new (inr none) h =
    subst (λ s. LogEnds c contents s before after old new) (sym none.0) (no_memory_instead c contents end before after old new none.1 h)

-- ---- by the status

pub log_at : (command : Option RunCommand) (contents : Option Contents) (told end : Status) (before after : Option (List ℕ)) (old new : State Block)
    → end ≢ status.Usage → RunLogs command contents told before after old new → told ≡ end
    → IsSomeAnd command (λ c. LogEnds c contents end before after old new)
log_at None contents told end before after old new runs h is = absurd (runs (sym is ∙ h.0))
log_at (Some c) contents told end before after old new runs h is = subst (λ s. LogEnds c contents s before after old new) is h

kept_by : (c : RunCommand) (contents : Option Contents) (end : Status) (before after : Option (List ℕ)) (old new : State Block)
    → exit_code end ≢ 0 → exit_code end ≢ 5 → exit_code end ≢ 6 → ((fault : Fault) → end ≢ status.Fault fault)
    → LogEnds c contents end before after old new → new ≡ old
kept_by c contents status.Done before after old new done sink memory no_fault h = absurd (done refl)
kept_by c contents status.Usage before after old new done sink memory no_fault h = absurd h
kept_by c contents (status.Script stop) before after old new done sink memory no_fault h = h
kept_by c contents (status.Schedule line) before after old new done sink memory no_fault h = absurd h
kept_by c contents (status.Data stop) before after old new done sink memory no_fault h = h
kept_by c contents (status.Fault fault) before after old new done sink memory no_fault h = absurd (no_fault fault refl)
kept_by c contents (status.Limit kind) before after old new done sink memory no_fault h = h
kept_by c contents (status.Source name) before after old new done sink memory no_fault h = h
kept_by c contents status.Sink before after old new done sink memory no_fault h = absurd (sink refl)
kept_by c contents status.NoMemory before after old new done sink memory no_fault h = absurd (memory refl)

pub kept_if_refused : (command : Option RunCommand) (contents : Option Contents) (end : Status) (before after : Option (List ℕ)) (old new : State Block)
    → RunLogs command contents end before after old new
    → exit_code end ≢ 0 → exit_code end ≢ 5 → exit_code end ≢ 6 → ((fault : Fault) → end ≢ status.Fault fault) → new ≡ old
kept_if_refused None contents end before after old new h done sink memory no_fault = h.1
kept_if_refused (Some c) contents end before after old new h done sink memory no_fault =
    kept_by c contents end before after old new done sink memory no_fault h
