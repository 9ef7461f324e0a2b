-- How a phase ends: after its demand it is judged.
use Rattle.std.proofs.Common.{◌≡◌, ℕ, List, [], ◌∷◌, Option, Some, None, Result, Ok, Err, IfErr, OnOk, true, option_map, inl, inr, refl, sym, ap, ap₂, ◌∙◌}
use Rattle.std.specs.List.{AllByRecursion}
use Rattle.std.specs.Option.{option_or}
use Rattle.gx_cluster_state.specs.Runs.{Point}
use Rattle.gx_cluster_state.specs.Shapes.{all_held}
use Rattle.gx_lineage.specs.declared.node_id.NodeId.{NodeId}
use Rattle.gx_plan.specs.Plans.{Planned, recipe_at}
use Rattle.gx_rows.specs.declared.fault.Fault.{Fault}
use Rattle.gx_exec_contents.specs.PartContents.{first_given}
use Rattle.gx_exec_contents.specs.PhaseFaults.{fault_in, fault_of_stop, least_stop}
use Rattle.gx_exec_contents.specs.Worlds.{IsSetting, World}
use Rattle.gx_exec_contents.specs.NodeStopLaws.{stops-are_faults}
use Rattle.gx_exec_work.specs.Works.{PlannedWorld}
use Rattle.gx_exec.specs.declared.run_stop.RunStop.{RunStop}
use Rattle.gx_exec.specs.declared.run_stop.RunStop.TheVariants as run_stop
use Rattle.gx_exec.specs.Courses.{Course, EndsAs, PassesAs, StopsAs, phase, targets_of}
use Rattle.gx_exec.specs.Engines.{ForcesTo}
use Rattle.gx_exec.specs.Phases.{AreUnstopped, HasDemanded, MayJudge}

-- ---- results

pub on-ok : {A E : Type 0} {P Q : Type 0} (r : Result A E) → (P → Q) → OnOk r P → OnOk r Q
on-ok (Ok x) f h = f h
on-ok (Err e) f h = tt

-- a result that is Ok or stops as a course does has the fault of the course
pub exact-by : {A : Type 0} (r : Result A RunStop) (w : World) (c : Course) (fault : Option Fault) (left : Planned) (x y : Point) → c.fault ≡ fault
    → OnOk r (EndsAs w c None left x y) → IfErr r (λ stop. StopsAs stop w c left x y) → ForcesTo r fault
exact-by (Ok a) w c fault left x y is ends stops = sym is ∙ ends.fault
exact-by (Err (run_stop.Fault f)) w c fault left x y is ends stops = sym is ∙ stops.fault
exact-by (Err run_stop.NoMemory) w c fault left x y is ends stops = tt

-- ---- one phase

none_mapped : {A B : Type 0} (f : A → B) (o : Option A) → option_map f o ≡ None → o ≡ None
none_mapped f None e = refl
none_mapped f (Some x) e = cc

each-none : {X A : Type 0} (f : X → Option A) (xs : List X) → first_given f xs ≡ None → AllByRecursion (λ x. f x ≡ None) xs
each-none f [] e = tt
each-none {X} {A} f (x ∷ xs) e = by (f x) refl (each-none f xs) e
  where
    by : (o : Option A) → f x ≡ o → (first_given f xs ≡ None → AllByRecursion (λ y. f y ≡ None) xs) → option_or o (first_given f xs) ≡ None → AllByRecursion (λ y. f y ≡ None) (x ∷ xs)
    by None is more e = (is, more e)
    by (Some a) is more e = cc

module _ (e : PlannedWorld) (setting : IsSetting e.world e.planned) (s : ℕ) (ns : List NodeId) (may : MayJudge e ns) where
  judged-each : (ms : List NodeId) → MayJudge e ms → first_given (least_stop e.world e.planned) ms ≡ first_given (λ n. fault_in e.world (recipe_at e.planned.recipes n.0)) ms
  judged-each [] may = refl
  judged-each (n ∷ ms) may = ap₂ option_or (stops-are_faults e.world e.planned setting n may.0.0 may.0.1) (judged-each ms may.1)

  judged-ends : (f : Option Fault) (x y : Point) → option_map (fault_of_stop s) (first_given (least_stop e.world e.planned) ns) ≡ f → HasDemanded e (targets_of e.world ns) x y → all_held y.shape (targets_of e.world ns) ≡ true
      → EndsAs e.world (phase e.world s ns e.planned) f e.planned x y
  judged-ends f x y is demanded held = record {
    fault = sym (ap (option_map (fault_of_stop s)) (judged-each ns may)) ∙ is;
    planned = refl;
    run = λ q front. (let begun = demanded q front in (y, record { inside = begun.inside; turns = begun.turns; held = held }, refl));
  }

  pub phase-ends : {A : Type 0} (r : Result A RunStop) (x y : Point) → ForcesTo r (option_map (fault_of_stop s) (first_given (least_stop e.world e.planned) ns)) → HasDemanded e (targets_of e.world ns) x y
      → all_held y.shape (targets_of e.world ns) ≡ true → OnOk r (EndsAs e.world (phase e.world s ns e.planned) None e.planned x y)
  phase-ends (Ok a) x y exact demanded held = judged-ends None x y exact demanded held
  phase-ends (Err stop) x y exact demanded held = tt

  pub phase-breaks : (x y : Point) → HasDemanded e (targets_of e.world ns) x y → PassesAs e.world (phase e.world s ns e.planned) x y
  phase-breaks x y demanded q front = inl (inr (demanded q front))

  pub phase-stops : {A : Type 0} (r : Result A RunStop) (x y : Point) → ForcesTo r (option_map (fault_of_stop s) (first_given (least_stop e.world e.planned) ns)) → HasDemanded e (targets_of e.world ns) x y
      → all_held y.shape (targets_of e.world ns) ≡ true → IfErr r (λ stop. StopsAs stop e.world (phase e.world s ns e.planned) e.planned x y)
  phase-stops (Ok a) x y exact demanded held = tt
  phase-stops (Err (run_stop.Fault f)) x y exact demanded held = judged-ends (Some f) x y exact demanded held
  phase-stops (Err run_stop.NoMemory) x y exact demanded held = phase-breaks x y demanded

  pub phase-quiet : {A : Type 0} (r : Result A RunStop) → ForcesTo r (option_map (fault_of_stop s) (first_given (least_stop e.world e.planned) ns)) → OnOk r (AreUnstopped e ns)
  phase-quiet (Ok a) exact = each-none (least_stop e.world e.planned) ns (none_mapped (fault_of_stop s) (first_given (least_stop e.world e.planned) ns) exact)
  phase-quiet (Err stop) exact = tt
