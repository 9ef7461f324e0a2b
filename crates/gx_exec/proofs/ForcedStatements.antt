-- One statement: it was added before, or it is added and its phases are gone through.
use Rattle.std.proofs.Common.{◌≡◌, ◌≢◌, ℕ, ◌≤◌, Bool, true, false, cond, List, length, None, Result, Ok, Err, IfErr, OnOk, inl, inr, refl, sym, ap, ◌∙◌, subst}
use Rattle.gx_cluster.specs.States.{State}
use Rattle.gx_cluster_state.specs.Runs.{Point}
use Rattle.gx_cluster_state.specs.declared.event.Event.{Event}
use Rattle.gx_lineage.specs.declared.node_id.NodeId.{NodeId}
use Rattle.gx_model.specs.ScriptMeaning.{fault_of_number}
use Rattle.gx_plan.specs.PlanInvariant.{IsFrontOf}
use Rattle.gx_plan.specs.Plans.{IsAdded, Planned, phases_of, with_number}
use Rattle.gx_exec_contents.specs.Worlds.{IsSetting, World, loaded_in, source_of}
use Rattle.gx_exec_work.specs.Works.{PlannedWorld}
use Rattle.gx_exec_work.specs.declared.block.Block.{Block}
use Rattle.gx_exec.specs.declared.run_stop.RunStop.{RunStop}
use Rattle.gx_exec.specs.Courses.{Course, EndsAs, StopsAs, forced, phases, still, was_added}
use Rattle.gx_exec.specs.Engines.{AreQuiet, ForcesTo, HoldsWorkOf, IsSteady, MayForce, point_of, with_stmt}
use Rattle.gx_exec.specs.Phases.{AreNext}
use Rattle.gx_exec.specs.CourseRunLaws.{OnCourse}
use Rattle.gx_exec.specs.FreshStatementLaws.{added-cases, added-here, others-kept}
use Rattle.gx_exec.proofs.LargerPlans.{work-kept}
use Rattle.gx_exec.specs.PhaseOrderLaws.{fresh-front, phases-next}

-- ---- phase by phase

-- phases are gone through, and these are left; `es` and `left` are the events at the start and now
pub record IsPhased (e : PlannedWorld) (s : ℕ) (start : State Block) (es : List Event) (c : State Block) (left : List Event) (all rest : List (List NodeId)) : Type 0 where
  pub contents : HoldsWorkOf e c
  pub workers : length c.running ≡ length start.running
  pub next : AreNext e rest
  pub course : OnCourse e.world (phases e.world s all e.planned) (phases e.world s rest e.planned) (point_of start es) (point_of c left)

-- ---- a plan with one more statement

abbrev pub phases_in : PlannedWorld → ℕ → List (List NodeId)
phases_in e s = phases_of e.world.script e.planned s

abbrev pub phased : PlannedWorld → ℕ → Course
phased e s = phases e.world s (phases_of e.world.script e.planned s) e.planned

forced-if : (w : World) (p : Planned) (s : ℕ) (b : Bool) → was_added p s ≡ b → forced w p s ≡ cond b (still p) (phases w s (phases_of w.script (with_number (source_of w) p s) s) (with_number (source_of w) p s))
forced-if w p s b is = ap (λ x. cond x (still p) (phases w s (phases_of w.script (with_number (source_of w) p s) s) (with_number (source_of w) p s))) is

pub forced-still : (w : World) (p : Planned) (s : ℕ) → was_added p s ≡ true → forced w p s ≡ still p
forced-still w p s was = forced-if w p s true was

pub forced-phases : (e : PlannedWorld) (s : ℕ) → was_added e.planned s ≡ false → forced e.world e.planned s ≡ phased (with_stmt e s) s
forced-phases e s fresh = forced-if e.world e.planned s false fresh

-- nothing is done if it was added before
pub still-ends : (w : World) (p : Planned) (s : ℕ) (x : Point) → was_added p s ≡ true → EndsAs w (forced w p s) None p x x
still-ends w p s x was = subst (λ c. EndsAs w c None p x x) (sym (forced-still w p s was)) (record { fault = refl; planned = refl; run = λ q front. refl })

module _ (e f : PlannedWorld) (s : ℕ) (fresh : was_added e.planned s ≡ false) (is : f ≡ with_stmt e s) where
  -- what is said of the larger plan, said of the course
  pub as-forced : (P : World → Course → Planned → Type 0) → P f.world (phased f s) f.planned → P e.world (forced e.world e.planned s) f.planned
  as-forced P h =
      subst (λ c. P e.world c f.planned) (sym (forced-phases e s fresh))
      (subst (λ g. P g.world (phased g s) g.planned → P e.world (phased (with_stmt e s) s) g.planned) (sym is) (λ x. x) h)

  pub forced-ends : {A : Type 0} (r : Result A RunStop) (x y : Point) → OnOk r (EndsAs f.world (phased f s) None f.planned x y) → OnOk r (EndsAs e.world (forced e.world e.planned s) None f.planned x y)
  forced-ends r x y h = as-forced (λ w c p. OnOk r (EndsAs w c None p x y)) h

  pub forced-stops : {A : Type 0} (r : Result A RunStop) (x y : Point) → IfErr r (λ stop. StopsAs stop f.world (phased f s) f.planned x y) → IfErr r (λ stop. StopsAs stop e.world (forced e.world e.planned s) f.planned x y)
  forced-stops r x y h = as-forced (λ w c p. IfErr r (λ stop. StopsAs stop w c p x y)) h

  module _ (setting : IsSetting e.world e.planned) (may : MayForce e s) (steady : IsSteady e) where
    pub after-front : IsFrontOf e.planned f.planned
    after-front = subst (λ g. IsFrontOf e.planned g.planned) (sym is) (fresh-front e setting s may fresh)

    pub after-next : AreNext f (phases_in f s)
    after-next = subst (λ g. AreNext g (phases_in g s)) (sym is) (phases-next e setting s may fresh steady.quiet)

    pub after-contents : (c : State Block) → HoldsWorkOf e c → HoldsWorkOf f c
    after-contents c contents = subst (λ g. HoldsWorkOf g c) (sym is) (work-kept e.world e.planned (with_number (source_of e.world) e.planned s) setting (fresh-front e setting s may fresh) c contents)

    pub after-added : IsAdded f.planned s
    after-added = subst (λ g. IsAdded g.planned s) (sym is) (added-here (source_of e.world) e.planned s may.from_one setting.plan may.within)

    pub after-others : (n : ℕ) → n ≢ s → 1 ≤ n → was_added f.planned n ≡ was_added e.planned n
    after-others n apart low = ap (λ g. was_added g.planned n) is ∙ others-kept (source_of e.world) e.planned s may.from_one n apart low

    steady-now : AreQuiet f → fault_of_number (loaded_in e.world) s ≡ None → IsSteady f
    steady-now quiet none = record {
      quiet = quiet;
      clean = subst (λ g. (n : ℕ) → IsAdded g.planned n → fault_of_number (loaded_in g.world) n ≡ None) (sym is)
          (λ n added. elim (added-cases (source_of e.world) e.planned s may.from_one n added) [
            | inl before ↦ steady.clean n before
            | inr same ↦ subst (λ m. fault_of_number (loaded_in e.world) m ≡ None) (sym same) none
          ]);
    }

    pub after-steady : {A : Type 0} (r : Result A RunStop) → OnOk r (AreQuiet f) → ForcesTo r (fault_of_number (loaded_in e.world) s) → OnOk r (IsSteady f)
    after-steady (Ok a) quiet exact = steady-now quiet exact
    after-steady (Err stop) quiet exact = tt
