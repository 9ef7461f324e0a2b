-- Courses that are gone through step by step.
use Rattle.std.proofs.Common.{◌≡◌, List, [], ◌∷◌, ◌++◌, Option, Some, None, inl, inr, refl, sym, ap, ◌∙◌, subst, append_assoc}
use Rattle.std.proofs.lemmas.List.{append-nil}
use Rattle.gx_cluster_state.specs.Nets.{Net}
use Rattle.gx_cluster_state.specs.Runs.{Command, Demand, Release, Passes, Point, Run}
use Rattle.gx_exec_contents.specs.Worlds.{World}
use Rattle.gx_exec_work.specs.Works.{net_in}
use Rattle.gx_plan.specs.PlanInvariant.{IsFrontOf}
use Rattle.gx_plan.specs.Plans.{Planned}
use Rattle.gx_plan.specs.FrontLaws.{fronts-joined}
use Rattle.gx_rows.specs.declared.fault.Fault.{Fault}
use Rattle.gx_exec.specs.declared.run_stop.RunStop.{RunStop}
use Rattle.gx_exec.specs.declared.run_stop.RunStop.TheVariants as run_stop
use Rattle.gx_exec.specs.Courses.{Course, EndsAs, PassesAs, StopsAs, and_then, joined, still}

pub front-same : (p : Planned) → IsFrontOf p p
front-same p = record {
  parts = refl;
  more_nodes = [];
  nodes = sym (append-nil p.lineage.nodes);
  more_recipes = [];
  recipes = sym (append-nil p.recipes);
  results = λ s added. refl;
  added = λ s added. added;
}

-- ---- runs, one after the other

pub passes-here : (n : Net) (cs : List Command) (p : Point) → Passes n cs p p
passes-here n [] p = refl
passes-here n (Demand ts ∷ cs) p = inl (inl refl)
passes-here n (Release k ∷ cs) p = inl refl

pub run-then : (n : Net) (cs ds : List Command) (p q r : Point) → Run n cs p q → Run n ds q r → Run n (cs ++ ds) p r
run-then n [] ds p q r a b = subst (λ x. Run n ds x r) a b
run-then n (c ∷ cs) ds p q r a b = (a.0, a.1, run-then n cs ds a.0 q r a.2 b)

pub passes-then : (n : Net) (cs ds : List Command) (p q r : Point) → Run n cs p q → Passes n ds q r → Passes n (cs ++ ds) p r
passes-then n [] ds p q r a b = subst (λ x. Passes n ds x r) a b
passes-then n (c ∷ cs) ds p q r a b = inr (a.0, a.1, passes-then n cs ds a.0 q r a.2 b)

pub passes-front : (n : Net) (cs ds : List Command) (p q : Point) → Passes n cs p q → Passes n (cs ++ ds) p q
passes-front n [] ds p q a = subst (λ x. Passes n ds p x) (sym a) (passes-here n ds p)
passes-front n (c ∷ cs) ds p q (inl a) = inl a
passes-front n (c ∷ cs) ds p q (inr a) = inr (a.0, a.1, passes-front n cs ds a.0 q a.2)

pub passes-all : (n : Net) (cs : List Command) (p q : Point) → Run n cs p q → Passes n cs p q
passes-all n [] p q a = a
passes-all n (c ∷ cs) p q a = inr (a.0, a.1, passes-all n cs a.0 q a.2)

-- ---- one course and the other after it

joined-on : (f : Option Fault) (a b : Course) → f ≡ None → joined f a b ≡ record { planned = b.planned; commands = a.commands ++ b.commands; fault = b.fault }
joined-on None a b e = refl
joined-on (Some f) a b e = cc

joined-off : (f : Option Fault) (g : Fault) (a b : Course) → f ≡ Some g → joined f a b ≡ a
joined-off None g a b e = cc
joined-off (Some f) g a b e = refl

joined-begins : (f : Option Fault) (a b : Course) → (more : List Command) × ((joined f a b).commands ≡ a.commands ++ more)
joined-begins None a b = (b.commands, refl)
joined-begins (Some f) a b = ([], sym (append-nil a.commands))

pub joined-front : (f : Option Fault) (a b : Course) (p : Planned) → IsFrontOf p a.planned → IsFrontOf a.planned b.planned → IsFrontOf p (joined f a b).planned
joined-front None a b p one other = fronts-joined p a.planned b.planned one other
joined-front (Some f) a b p one other = one

joined-later : (f : Option Fault) (a b : Course) → IsFrontOf a.planned b.planned → IsFrontOf a.planned (joined f a b).planned
joined-later f a b front = joined-front f a b a.planned (front-same a.planned) front

-- ---- part-way

-- some commands of a course were carried out, and the rest is left
pub record OnCourse (w : World) (whole rest : Course) (before here : Point) : Type 0 where
  pub done : List Command
  pub commands : done ++ rest.commands ≡ whole.commands
  pub planned : rest.planned ≡ whole.planned
  pub fault : rest.fault ≡ whole.fault
  pub run : (q : Planned) → IsFrontOf whole.planned q → Run (net_in w q) done before here

pub course-starts : (w : World) (c : Course) (x : Point) → OnCourse w c c x x
course-starts w c x = record { done = []; commands = refl; planned = refl; fault = refl; run = λ q front. refl }

-- the rest is gone through
pub course-last : (w : World) (whole rest : Course) (f : Option Fault) (left : Planned) (x y z : Point) → OnCourse w whole rest x y → EndsAs w rest f left y z → EndsAs w whole f left x z
course-last w whole rest f left x y z on ends = record {
  fault = sym on.fault ∙ ends.fault;
  planned = ends.planned ∙ on.planned;
  run = λ q front. subst (λ cs. Run (net_in w q) cs x z) on.commands
      (run-then (net_in w q) on.done rest.commands x y z (on.run q front) (ends.run q (subst (λ p. IsFrontOf p q) (sym on.planned) front)));
}

-- or maybe not to its end
pub course-breaks : (w : World) (whole rest : Course) (x y z : Point) → OnCourse w whole rest x y → PassesAs w rest y z → PassesAs w whole x z
course-breaks w whole rest x y z on passes q front =
    subst (λ cs. Passes (net_in w q) cs x z) on.commands
    (passes-then (net_in w q) on.done rest.commands x y z (on.run q front) (passes q (subst (λ p. IsFrontOf p q) (sym on.planned) front)))

pub course-waits : (w : World) (whole rest : Course) (x y : Point) → OnCourse w whole rest x y → PassesAs w whole x y
course-waits w whole rest x y on = course-breaks w whole rest x y y on (λ q front. passes-here (net_in w q) rest.commands y)

pub course-last_stops : (w : World) (whole rest : Course) (stop : RunStop) (left : Planned) (x y z : Point) → OnCourse w whole rest x y → StopsAs stop w rest left y z → StopsAs stop w whole left x z
course-last_stops w whole rest (run_stop.Fault f) left x y z on stops = course-last w whole rest (Some f) left x y z on stops
course-last_stops w whole rest run_stop.NoMemory left x y z on stops = course-breaks w whole rest x y z on stops

-- nothing is left
pub course-ends : (w : World) (whole : Course) (left : Planned) (x y : Point) → OnCourse w whole (still left) x y → EndsAs w whole None left x y
course-ends w whole left x y on =
    course-last w whole (still left) None left x y y on (record { fault = refl; planned = refl; run = λ q front. refl })

-- the next step ended without a fault
pub course-more : (w : World) (whole a : Course) (b : Planned → Course) (left : Planned) (x y z : Point) → IsFrontOf a.planned (b a.planned).planned
    → OnCourse w whole (and_then a b) x y → EndsAs w a None left y z → OnCourse w whole (b left) x z
course-more w whole a b left x y z later on ends =
    let e : and_then a b ≡ record { planned = (b a.planned).planned; commands = a.commands ++ (b a.planned).commands; fault = (b a.planned).fault } = joined-on a.fault a (b a.planned) ends.fault in
    let last : (b a.planned).planned ≡ whole.planned = ap (λ c. c.planned) (sym e) ∙ on.planned in
    record {
      done = on.done ++ a.commands;
      commands = append_assoc on.done a.commands (b left).commands ∙ ap (λ q. on.done ++ (a.commands ++ (b q).commands)) ends.planned ∙ ap (λ c. on.done ++ c.commands) (sym e) ∙ on.commands;
      planned = ap (λ q. (b q).planned) ends.planned ∙ last;
      fault = ap (λ q. (b q).fault) ends.planned ∙ ap (λ c. c.fault) (sym e) ∙ on.fault;
      run = λ q front. run-then (net_in w q) on.done a.commands x y z (on.run q front)
          (ends.run q (fronts-joined a.planned (b a.planned).planned q later (subst (λ p. IsFrontOf p q) (sym last) front)));
    }

-- the next step stopped
pub course-stops : (w : World) (whole a : Course) (b : Planned → Course) (stop : RunStop) (left : Planned) (x y z : Point) → IsFrontOf a.planned (b a.planned).planned
    → OnCourse w whole (and_then a b) x y → StopsAs stop w a left y z → StopsAs stop w whole left x z
course-stops w whole a b (run_stop.Fault f) left x y z later on ends =
    course-last w whole a (Some f) left x y z (subst (λ c. OnCourse w whole c x y) (joined-off a.fault f a (b a.planned) ends.fault) on) ends
course-stops w whole a b run_stop.NoMemory left x y z later on passes =
    course-breaks w whole (and_then a b) x y z on
    (λ q front.
    let begins = joined-begins a.fault a (b a.planned) in
    subst (λ cs. Passes (net_in w q) cs y z) (sym begins.1)
    (passes-front (net_in w q) a.commands begins.0 y z (passes q (fronts-joined a.planned (and_then a b).planned q (joined-later a.fault a (b a.planned) later) front))))
