-- Phases that are gone through one after the other.
use Rattle.std.proofs.Common.{◌≡◌, ℕ, ◌+◌, ◌<◌, List, [], ◌∷◌, None, drop, get_or, length, map, sym, ap, ◌∙◌, subst, refl, add-one, drop-cons}
use Rattle.gx_cluster.specs.States.{State}
use Rattle.gx_cluster_state.specs.declared.event.Event.{Event}
use Rattle.gx_lineage.specs.declared.node_id.NodeId.{NodeId}
use Rattle.gx_plan.specs.PlanInvariant.{IsFrontOf}
use Rattle.gx_exec_contents.specs.PhaseFaults.{AreQuietBelow}
use Rattle.gx_exec_contents.specs.Worlds.{IsSetting}
use Rattle.gx_exec_work.specs.Works.{PlannedWorld}
use Rattle.gx_exec_work.specs.declared.block.Block.{Block}
use Rattle.gx_exec.specs.declared.run_stop.RunStop.{RunStop}
use Rattle.gx_exec.specs.Courses.{EndsAs, StopsAs, phase, phases}
use Rattle.gx_exec.specs.Engines.{HoldsWorkOf, point_of}
use Rattle.gx_exec.specs.Phases.{AreNext, AreUnstopped, MayJudge}
use Rattle.gx_exec.specs.CourseFaultLaws.{phases-planned}
use Rattle.gx_exec.specs.CourseRunLaws.{OnCourse, course-more, course-stops, front-same}
use Rattle.gx_exec.proofs.ForcedStatements.{IsPhased}
use Rattle.gx_exec.specs.QuietPlanLaws.{next-judged, next-more, none-next}

-- the next phase, and the others
pub next-phase : {V : Type 0} (vs : List V) (items : V → List NodeId) (i : ℕ) (v : V) (ns : List NodeId) → i < length vs → v ≡ get_or vs i v → ns ≡ items v
    → map items (drop i vs) ≡ ns ∷ map items (drop (i + 1) vs)
next-phase vs items i v ns within is same =
    let next : drop i vs ≡ get_or vs i v ∷ drop (i + 1) vs = rw (add-one, drop-cons vs i v) refl in
    ap (map items) (next ∙ ap (λ u. u ∷ drop (i + 1) vs) (sym is)) ∙ ap (λ ms. ms ∷ map items (drop (i + 1) vs)) (sym same)

module _ (e : PlannedWorld) (s : ℕ) (start : State Block) (es : List Event) (c : State Block) (now : List Event) (all left : List (List NodeId)) (ns : List NodeId) (rest : List (List NodeId)) (el : left ≡ ns ∷ rest) (so_far : IsPhased e s start es c now all left) where
  later : IsFrontOf e.planned (phases e.world s rest e.planned).planned
  later = subst (IsFrontOf e.planned) (sym (phases-planned e.world s rest e.planned)) (front-same e.planned)

  on-course : OnCourse e.world (phases e.world s all e.planned) (phases e.world s (ns ∷ rest) e.planned) (point_of start es) (point_of c now)
  on-course = subst (λ nss. OnCourse e.world (phases e.world s all e.planned) (phases e.world s nss e.planned) (point_of start es) (point_of c now)) el so_far.course

  pub phased-may : IsSetting e.world e.planned → MayJudge e ns
  phased-may setting = next-judged e ns rest setting (subst (AreNext e) el so_far.next)

  pub phased-stops : (stop : RunStop) (d : State Block) (after : List Event) → StopsAs stop e.world (phase e.world s ns e.planned) e.planned (point_of c now) (point_of d after)
      → StopsAs stop e.world (phases e.world s all e.planned) e.planned (point_of start es) (point_of d after)
  phased-stops stop d after stops =
      course-stops e.world (phases e.world s all e.planned) (phase e.world s ns e.planned) (phases e.world s rest) stop e.planned (point_of start es) (point_of c now) (point_of d after) later on-course stops

  pub phased-more : (d : State Block) (after : List Event) → IsSetting e.world e.planned → HoldsWorkOf e d → length d.running ≡ length c.running → AreUnstopped e ns
      → EndsAs e.world (phase e.world s ns e.planned) None e.planned (point_of c now) (point_of d after) → IsPhased e s start es d after all rest
  phased-more d after setting contents workers unstopped ends = record {
    contents = contents;
    workers = workers ∙ so_far.workers;
    next = next-more e ns rest setting (subst (AreNext e) el so_far.next) unstopped;
    course = course-more e.world (phases e.world s all e.planned) (phase e.world s ns e.planned) (phases e.world s rest) e.planned (point_of start es) (point_of c now) (point_of d after) later on-course ends;
  }

-- no phase is left
pub phased-quiet : (e : PlannedWorld) (s : ℕ) (start : State Block) (es : List Event) (c : State Block) (now : List Event)
    (all left : List (List NodeId)) → left ≡ [] → IsSetting e.world e.planned → IsPhased e s start es c now all left
    → AreQuietBelow e.world e.planned (length e.planned.lineage.nodes)
phased-quiet e s start es c now all left el setting so_far = none-next e setting (subst (AreNext e) el so_far.next)
