-- What an engine and its cluster did for some actions, and how far their texts were written.
use Rattle.std.specs.Prelude.{◌≡◌, ℕ, ◌+◌, ◌≤◌, ◌<◌, false, List, length, filter, is_some, slice_get, take, Option, None, Some}
use Rattle.std.specs.Io.KnownBytes.{Appends}
use Rattle.std.specs.List.{concat, range_with_len}
use Rattle.gx_cluster.specs.States.{State}
use Rattle.gx_cluster_state.specs.Runs.{Point}
use Rattle.gx_cluster_state.specs.declared.event.Event.{Event}
use Rattle.gx_exec.specs.Courses.{EndsAs, PassesAs, answered_all, was_added}
use Rattle.gx_exec.specs.Engines.{HoldsWorkOf, IsSteady, action_answer, point_of}
use Rattle.gx_exec_contents.specs.Worlds.{World}
use Rattle.gx_exec_work.specs.Works.{PlannedWorld}
use Rattle.gx_exec_work.specs.declared.block.Block.{Block}
use Rattle.gx_model.specs.ScriptMeaning.{Loaded, answers_of_script, meaning_of_answers}
use Rattle.gx_outside.specs.Prefixes.{AppendsProperPrefix}
use Rattle.gx_plan.specs.Plans.{Planned}
use Rattle.gx_print.specs.declared.status.Status.{Status}
use Rattle.gx_print.specs.declared.status.Status.TheVariants as status

-- those of these statements that are actions
abbrev pub actions_among : Loaded → List ℕ → List ℕ
actions_among l stmts = filter (λ s. is_some (action_answer l s)) stmts

-- the numbers of the actions of a script, in order
abbrev pub actions_of : Loaded → List ℕ
actions_of l = actions_among l (range_with_len 1 (length l.checked))

-- the texts of a script that was loaded, one for each action up to the end
abbrev pub texts_of : Loaded → List (List ℕ)
texts_of l = (meaning_of_answers (answers_of_script l)).texts

-- statements from number s on may be answered: none of them was added
pub record MayAnswerFrom (s : ℕ) (e : PlannedWorld) (cluster : State Block) : Type 0 where
  pub steady : IsSteady e
  pub contents : HoldsWorkOf e cluster
  pub fresh : (n : ℕ) → s ≤ n → was_added e.planned n ≡ false

-- ---- written texts

-- so many texts were written whole, and then a proper prefix of the next
pub record StopsInText (texts : List (List ℕ)) (whole : ℕ) (before after : Option (List ℕ)) : Type 0 where
  pub text : List ℕ
  pub next : slice_get texts whole ≡ Some text
  pub between : Option (List ℕ)
  pub first : Appends before between (concat (take whole texts))
  pub part : AppendsProperPrefix between after text

-- ---- logs

-- what was planned, where the cluster is, and what was written
pub record Moment : Type 0 where
  pub planned : Planned
  pub point : Point
  pub written : Option (List ℕ)

abbrev pub moment_of : PlannedWorld → State Block → List Event → Option (List ℕ) → Moment
moment_of e cluster events written =
    record { planned = e.planned; point = point_of cluster events; written = written }

-- the actions up to one were answered, and a proper prefix of its text was written after the texts before it
pub record StopsInAction (w : World) (actions : List ℕ) (texts : List (List ℕ)) (before after : Moment) : Type 0 where
  pub whole : ℕ
  pub within : whole < length actions
  pub course : EndsAs w (answered_all w before.planned (take (whole + 1) actions)) None after.planned before.point after.point
  pub text : StopsInText texts whole before.written after.written

-- what was done for these actions, which print these texts, by how that ended
abbrev pub LogsAs : World → List ℕ → List (List ℕ) → Status → Moment → Moment → Type 0
LogsAs w actions texts status.Done before after =
    EndsAs w (answered_all w before.planned actions) None after.planned before.point after.point
LogsAs w actions texts status.Usage before after = ⊥
LogsAs w actions texts (status.Script stop) before after = ⊥
LogsAs w actions texts (status.Schedule line) before after = ⊥
LogsAs w actions texts (status.Data stop) before after = ⊥
LogsAs w actions texts (status.Fault fault) before after =
    EndsAs w (answered_all w before.planned actions) (Some fault) after.planned before.point after.point
LogsAs w actions texts (status.Limit kind) before after = ⊥
LogsAs w actions texts (status.Source name) before after = ⊥
LogsAs w actions texts status.Sink before after = StopsInAction w actions texts before after
LogsAs w actions texts status.NoMemory before after =
    PassesAs w (answered_all w before.planned actions) before.point after.point
