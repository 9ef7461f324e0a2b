-- Statements that are forced in order, and the action after them.
use Rattle.std.proofs.Common.{◌≡◌, ◌≢◌, ◌⊎◌, ℕ, ◌-◌, ◌≤◌, ◌==◌, Bool, true, false, if◌then◌else◌, List, [], ◌∷◌, length, Option, Some, None, IsSome, inl, inr, Err, refl, sym, ap, ◌∙◌, subst, arith}
use Rattle.std.specs.List.{AllByRecursion, flat_map, slice_get}
use Rattle.std.specs.Option.{option_and_then}
use Rattle.std.proofs.lemmas.List.{append-nil}
use Rattle.gx_cluster.specs.States.{State}
use Rattle.gx_cluster_state.specs.declared.event.Event.{Event}
use Rattle.gx_cluster_state.specs.Nets.{Net}
use Rattle.gx_cluster_state.specs.Runs.{Point, Run}
use Rattle.gx_cluster_state.specs.Shapes.{all_held}
use Rattle.gx_lineage.specs.declared.node_id.NodeId.{NodeId}
use Rattle.gx_model.specs.ActionAnswers.{answer_of_stmt}
use Rattle.gx_model.specs.Graphs.{Graph}
use Rattle.gx_model.specs.NamesUsed.{stmts_used}
use Rattle.gx_model.specs.ScriptMeaning.{Loaded, fault_among, fault_of_action, fault_of_number, first_fault, plain_values, stmts_in}
use Rattle.gx_model.specs.StmtFaults.{fault_of_stmt}
use Rattle.gx_plan.specs.PlanInvariant.{IsFrontOf}
use Rattle.gx_plan.specs.Plans.{IsAdded, Planned, nodes_of, phase_at, phases_of, phases_of_stmt}
use Rattle.gx_plan.specs.Recipes.{recipe_of}
use Rattle.gx_plan.specs.StmtNodes.{statement_of}
use Rattle.gx_plan.specs.declared.kind.Kind.TheVariants as kind
use Rattle.gx_plan.specs.FrontLaws.{fronts-joined}
use Rattle.gx_plan.specs.declared.recipe.Recipe.{Recipe}
use Rattle.gx_rows.specs.declared.fault.Fault.{Fault}
use Rattle.gx_types_stmts.specs.declared.checked_stmt.CheckedStmt.{CheckedStmt}
use Rattle.gx_types_stmts.specs.declared.typed_stmt.TypedStmt.{TypedStmt}
use Rattle.gx_types_stmts.specs.declared.typed_stmt.TypedStmt.TheVariants as stmts
use Rattle.gx_exec_contents.specs.Worlds.{IsWorld, World, loaded_in}
use Rattle.gx_exec_work.specs.Works.{PlannedWorld, net_in}
use Rattle.gx_exec_work.specs.declared.block.Block.{Block}
use Rattle.gx_exec.specs.declared.run_stop.RunStop.{RunStop}
use Rattle.gx_exec.specs.declared.run_stop.RunStop.TheVariants as run_stop
use Rattle.gx_exec.specs.Courses.{Course, EndsAs, PassesAs, StopsAs, answered, fault_of_phase, forced, forced_all, joined, phase, phases, still, targets_of, was_added}
use Rattle.gx_exec.specs.Engines.{ForcesTo, HoldsWorkOf, IsSteady, MayForce, action_answer, point_of, with_stmt}
use Rattle.gx_exec.specs.CourseFaultLaws.{found-statement, front-forced, front-forced_all}
use Rattle.gx_exec.specs.CourseRunLaws.{OnCourse, course-ends, course-last, course-last_stops, course-more, course-starts, course-stops, front-same, passes-all}
use Rattle.gx_exec.proofs.ForcedStatements.{forced-phases}
use Rattle.gx_exec.proofs.NeededStatements.{AreForcedTo, AreForcedTo-more, AreForcedTo-none, last-may, next-may, used-low, used-range}

-- ---- statements in order

-- from one engine and cluster with its events to another: statements were forced, and the rest is to come
pub record IsForcing (a : ℕ) (e : PlannedWorld) (c : State Block) (es : List Event) (f : PlannedWorld) (d : State Block) (now : List Event) (rest : List ℕ) : Type 0 where
  pub world : f.world ≡ e.world
  pub front : IsFrontOf e.planned f.planned
  pub steady : IsSteady f
  pub contents : HoldsWorkOf f d
  pub workers : length d.running ≡ length c.running
  pub later : (n : ℕ) → a ≤ n → was_added f.planned n ≡ was_added e.planned n
  pub order : AreForcedTo (stmts_used e.world.script a) rest f.planned
  pub low : AllByRecursion (λ s. 1 ≤ s) rest
  pub fault : fault_among (loaded_in e.world) rest ≡ fault_of_action (loaded_in e.world) a
  pub course : OnCourse e.world (forced_all e.world e.planned (stmts_used e.world.script a)) (forced_all e.world f.planned rest) (point_of c es) (point_of d now)

module _ (a : ℕ) (e : PlannedWorld) (c : State Block) (es : List Event) (world : IsWorld e.world) (low : 1 ≤ a) (high : a ≤ length e.world.script) where
  pub IsForcing-none : IsSteady e → HoldsWorkOf e c → IsForcing a e c es e c es (stmts_used e.world.script a)
  IsForcing-none steady contents = record {
    world = refl;
    front = front-same e.planned;
    steady = steady;
    contents = contents;
    workers = refl;
    later = λ n above. refl;
    order = AreForcedTo-none e.world world a low high e.planned;
    low = used-low e.world world a low high;
    fault = refl;
    course = course-starts e.world (forced_all e.world e.planned (stmts_used e.world.script a)) (point_of c es);
  }

  module _ (f : PlannedWorld) (d : State Block) (now : List Event) (left : List ℕ) (s : ℕ) (ss : List ℕ) (el : left ≡ s ∷ ss) (all : IsForcing a e c es f d now left) where
    pub forcing-may : MayForce f s
    forcing-may = subst (λ v. MayForce (record { world = v; planned = f.planned }) s) (sym all.world)
        (next-may e.world world a low high f.planned s ss (subst (IsForcing a e c es f d now) el all).order)

    first-none : (u v : Option Fault) → u ≡ None → v ≡ first_fault u v
    first-none u v none = rw none refl

    pub forcing-more : (g : PlannedWorld) (o : State Block) (after : List Event) → g.world ≡ f.world → IsFrontOf f.planned g.planned → IsSteady g → HoldsWorkOf g o → length o.running ≡ length d.running
        → ((n : ℕ) → n ≢ s → 1 ≤ n → was_added g.planned n ≡ was_added f.planned n) → IsAdded g.planned s → fault_of_number (loaded_in f.world) s ≡ None
        → EndsAs f.world (forced f.world f.planned s) None g.planned (point_of d now) (point_of o after) → IsForcing a e c es g o after ss
    forcing-more g o after same front steady contents workers others added none ends =
        let h : IsForcing a e c es f d now (s ∷ ss) = subst (IsForcing a e c es f d now) el all in
        let range = used-range e.world world a low high s (h.order.listed s (inl refl)) in
        record {
          world = same ∙ h.world;
          front = fronts-joined e.planned f.planned g.planned h.front front;
          steady = steady;
          contents = contents;
          workers = workers ∙ h.workers;
          later = λ n above. others n (λ e. absurd (omega (arith, e, above, range.0, range.1))) (omega (arith, low, above)) ∙ h.later n above;
          order = AreForcedTo-more (stmts_used e.world.script a) s ss f.planned g.planned front.added added h.order;
          low = h.low.1;
          fault = first-none (fault_of_number (loaded_in e.world) s) (fault_among (loaded_in e.world) ss) (subst (λ v. fault_of_number (loaded_in v) s ≡ None) h.world none) ∙ h.fault;
          course = course-more e.world (forced_all e.world e.planned (stmts_used e.world.script a)) (forced e.world f.planned s) (λ q. forced_all e.world q ss) g.planned (point_of c es) (point_of d now) (point_of o after)
              (front-forced_all e.world (forced e.world f.planned s).planned ss h.low.1) h.course
              (subst (λ v. EndsAs v (forced v f.planned s) None g.planned (point_of d now) (point_of o after)) h.world ends);
        }

    pub forcing-stops : (stop : RunStop) (left : Planned) (o : State Block) (after : List Event) → StopsAs stop f.world (forced f.world f.planned s) left (point_of d now) (point_of o after)
        → StopsAs stop e.world (forced_all e.world e.planned (stmts_used e.world.script a)) left (point_of c es) (point_of o after)
    forcing-stops stop left o after stops =
        let h : IsForcing a e c es f d now (s ∷ ss) = subst (IsForcing a e c es f d now) el all in
        course-stops e.world (forced_all e.world e.planned (stmts_used e.world.script a)) (forced e.world f.planned s) (λ q. forced_all e.world q ss) stop left (point_of c es) (point_of d now) (point_of o after)
        (front-forced_all e.world (forced e.world f.planned s).planned ss h.low.1) h.course
        (subst (λ v. StopsAs stop v (forced v f.planned s) left (point_of d now) (point_of o after)) h.world stops)

    pub forcing-exact : (A B : Type 0) (stop : RunStop) → ForcesTo {A = A} (Err stop) (fault_of_number (loaded_in f.world) s) → ForcesTo {A = B} (Err stop) (fault_of_action (loaded_in e.world) a)
    forcing-exact A B (run_stop.Fault x) exact =
        let h : IsForcing a e c es f d now (s ∷ ss) = subst (IsForcing a e c es f d now) el all in
        sym h.fault ∙ ap (λ u. first_fault u (fault_among (loaded_in e.world) ss)) (subst (λ v. fault_of_number (loaded_in v) s ≡ Some x) h.world exact)
    forcing-exact A B run_stop.NoMemory exact = tt

    pub forcing-later : (g : PlannedWorld) → ((n : ℕ) → n ≢ s → 1 ≤ n → was_added g.planned n ≡ was_added f.planned n) → (n : ℕ) → a ≤ n → was_added g.planned n ≡ was_added e.planned n
    forcing-later g others n above =
        let h : IsForcing a e c es f d now (s ∷ ss) = subst (IsForcing a e c es f d now) el all in
        let range = used-range e.world world a low high s (h.order.listed s (inl refl)) in
        others n (λ e. absurd (omega (arith, e, above, range.0, range.1))) (omega (arith, low, above)) ∙ h.later n above

  -- nothing is left
  pub forcing-ends : (f : PlannedWorld) (d : State Block) (now : List Event) (left : List ℕ) → left ≡ [] → IsForcing a e c es f d now left
      → EndsAs e.world (forced_all e.world e.planned (stmts_used e.world.script a)) None f.planned (point_of c es) (point_of d now)
  forcing-ends f d now left el all =
      course-ends e.world (forced_all e.world e.planned (stmts_used e.world.script a)) f.planned (point_of c es) (point_of d now) (subst (IsForcing a e c es f d now) el all).course

  pub forcing-none : (f : PlannedWorld) (d : State Block) (now : List Event) (left : List ℕ) → left ≡ [] → IsForcing a e c es f d now left → fault_of_action (loaded_in e.world) a ≡ None
  forcing-none f d now left el all = sym (subst (IsForcing a e c es f d now) el all).fault

  pub forcing-last : (f : PlannedWorld) (d : State Block) (now : List Event) (left : List ℕ) → left ≡ [] → IsForcing a e c es f d now left → MayForce f a
  forcing-last f d now left el all = subst (λ v. MayForce (record { world = v; planned = f.planned }) a) (sym all.world)
      (last-may e.world world a low high f.planned (subst (IsForcing a e c es f d now) el all).order)

-- ---- the action

module _ (w : World) (a : ℕ) (low : 1 ≤ a) (p q o : Planned) (x y z : Point) (first : EndsAs w (forced_all w p (stmts_used w.script a)) None q x y) where
  on-action : OnCourse w (answered w p a) (forced w q a) x y
  on-action =
      course-more w (answered w p a) (forced_all w p (stmts_used w.script a)) (λ r. forced w r a) q x x y
      (front-forced w (forced_all w p (stmts_used w.script a)).planned a low) (course-starts w (answered w p a) x) first

  module _ (v : World) (same : v ≡ w) where
    pub action-ends : EndsAs v (forced v q a) None o y z → EndsAs w (answered w p a) None o x z
    action-ends ends =
        course-last w (answered w p a) (forced w q a) None o x y z on-action (subst (λ u. EndsAs u (forced u q a) None o y z) same ends)

    -- it may also be that it was not gone through to its end
    pub action-passes : EndsAs v (forced v q a) None o y z → PassesAs w (answered w p a) x z
    action-passes ends r front = passes-all (net_in w r) (answered w p a).commands x z ((action-ends ends).run r front)

    pub action-stops : (stop : RunStop) → StopsAs stop v (forced v q a) o y z → StopsAs stop w (answered w p a) o x z
    action-stops stop stops =
        course-last_stops w (answered w p a) (forced w q a) stop o x y z on-action (subst (λ u. StopsAs stop u (forced u q a) o y z) same stops)

-- a stop before the action
pub needs-stop : (w : World) (a : ℕ) (low : 1 ≤ a) (p left : Planned) (stop : RunStop) (x y : Point) → StopsAs stop w (forced_all w p (stmts_used w.script a)) left x y → StopsAs stop w (answered w p a) left x y
needs-stop w a low p left stop x y stops =
    course-stops w (answered w p a) (forced_all w p (stmts_used w.script a)) (λ r. forced w r a) stop left x x y
    (front-forced w (forced_all w p (stmts_used w.script a)).planned a low) (course-starts w (answered w p a) x) stops

not_true : false ≡ true → ⊥
not_true e = cc

-- an action has no fault of its own
action-clean : {A B : Type 0} (checked : List CheckedStmt) (gs : List (Graph A)) (hs : List (Graph B)) (s : ℕ) (st : TypedStmt) → IsSome (answer_of_stmt checked gs st) → fault_of_stmt hs s st ≡ None
action-clean checked gs hs s (stmts.PrintVertices g) is = refl
action-clean checked gs hs s (stmts.PrintEdges g) is = refl
action-clean checked gs hs s (stmts.PrintTable t) is = refl
action-clean checked gs hs s (stmts.CountVertices g) is = refl
action-clean checked gs hs s (stmts.CountEdges g) is = refl
action-clean checked gs hs s (stmts.CountTable t) is = refl
action-clean checked gs hs s _ is = absurd (not_true is)

clean-at : (l : Loaded) (s : ℕ) (o : Option TypedStmt) → IsSome (option_and_then (answer_of_stmt l.checked (plain_values l)) o) → option_and_then (fault_of_stmt (plain_values l) s) o ≡ None
clean-at l s None is = cc
clean-at l s (Some st) is = action-clean l.checked (plain_values l) (plain_values l) s st is

pub no-fault : (l : Loaded) (s : ℕ) → IsSome (action_answer l s) → fault_of_number l s ≡ None
no-fault l s is = clean-at l s (slice_get (stmts_in l) (s - 1)) is

pub action-exact : (A B : Type 0) (l : Loaded) (a : ℕ) (stop : RunStop) → IsSome (action_answer l a) → ForcesTo {A = A} (Err stop) (fault_of_number l a) → ForcesTo {A = B} (Err stop) (fault_of_action l a)
action-exact A B l a (run_stop.Fault f) is exact = let contrary : None ≡ Some f = sym (no-fault l a is) ∙ exact in absurd (cc)
action-exact A B l a run_stop.NoMemory is exact = tt

-- ---- its blocks are held

demands-one : {A : Type 0} (checked : List CheckedStmt) (gs : List (Graph A)) (p : Planned) (s : ℕ) (st : TypedStmt) → IsSome (answer_of_stmt checked gs st) → (ns : List NodeId) × (phases_of_stmt p s st ≡ phase_at ns)
demands-one checked gs p s (stmts.PrintVertices g) is = (nodes_of p (recipe_of kind.Vertices g ∷ []), refl)
demands-one checked gs p s (stmts.PrintEdges g) is = (nodes_of p (recipe_of kind.Edges g ∷ []), refl)
demands-one checked gs p s (stmts.PrintTable t) is = (nodes_of p (recipe_of kind.Vertices t ∷ []), refl)
demands-one checked gs p s (stmts.CountVertices g) is = (nodes_of p (recipe_of kind.Vertices g ∷ []), refl)
demands-one checked gs p s (stmts.CountEdges g) is = (nodes_of p (recipe_of kind.Edges g ∷ []), refl)
demands-one checked gs p s (stmts.CountTable t) is = (nodes_of p (recipe_of kind.Vertices t ∷ []), refl)
demands-one checked gs p s _ is = absurd (not_true is)

one-phase : (w : World) (s : ℕ) → 1 ≤ s → s ≤ length w.script → IsSome (action_answer (loaded_in w) s) → (p : Planned) → (ns : List NodeId) × (phases_of w.script p s ≡ phase_at ns)
one-phase w s low high is p =
    let st = statement_of w.script s in
    let of_stmt : IsSome (option_and_then (answer_of_stmt w.script (plain_values (loaded_in w))) (Some st)) =
    subst (λ o. IsSome (option_and_then (answer_of_stmt w.script (plain_values (loaded_in w))) o)) (found-statement w.script (s - 1) (omega (arith, low, high))) is in
    demands-one w.script (plain_values (loaded_in w)) p s st of_stmt

-- a phase is left out, or it is of its nodes
phase_at-cases : (ns : List NodeId) → (phase_at ns ≡ []) ⊎ (phase_at ns ≡ ns ∷ [])
phase_at-cases ns = by (length ns == 0)
  where
    by : (b : Bool) → ((if b then [] else ns ∷ []) ≡ []) ⊎ ((if b then [] else ns ∷ []) ≡ ns ∷ [])
    by true = inl refl
    by false = inr refl

one-held : (n : Net) (f : Option Fault) (w : World) (s : ℕ) (ns : List NodeId) (q : Planned) (x y : Point) → fault_of_phase w q s ns ≡ f → (joined f (phase w s ns q) (still q)).fault ≡ None
    → Run n (joined f (phase w s ns q) (still q)).commands x y → all_held y.shape (targets_of w ns) ≡ true
one-held n None w s ns q x y is none run = subst (λ z. all_held z.shape (targets_of w ns) ≡ true) (sym run.2) run.1.held
one-held n (Some f) w s ns q x y is none run = let contrary : Some f ≡ None = sym is ∙ none in absurd (cc)

-- all targets of the phases of an action are held
abbrev ArePhasesHeld : Point → World → Planned → ℕ → Type 0
ArePhasesHeld y w p a = all_held y.shape (targets_of w (flat_map (λ ns. ns) (phases_of w.script p a))) ≡ true

joined-still : (h : Option Fault) (c : Course) → (joined h c (still c.planned)).planned ≡ c.planned
joined-still None c = refl
joined-still (Some h) c = refl

module _ (e f : PlannedWorld) (a : ℕ) (fresh : was_added e.planned a ≡ false) (x y : Point) (same : f.world ≡ e.world) (ends : EndsAs e.world (forced e.world e.planned a) None f.planned x y) where
  abbrev w : World
  w = e.world

  abbrev q : Planned
  q = (with_stmt e a).planned

  -- the course, by its phases
  course-by : (nss : List (List NodeId)) → phases_of e.world.script (with_stmt e a).planned a ≡ nss → EndsAs e.world (phases e.world a nss (with_stmt e a).planned) None f.planned x y
  course-by nss are = subst (λ c. EndsAs w c None f.planned x y) (forced-phases e a fresh ∙ ap (λ mss. phases w a mss q) are) ends

  held-as : (nss : List (List NodeId)) → phases_of w.script q a ≡ nss → f.planned ≡ q → all_held y.shape (targets_of w (flat_map (λ ns. ns) nss)) ≡ true → ArePhasesHeld y f.world f.planned a
  held-as nss are left held =
      subst (λ v. ArePhasesHeld y v f.planned a) (sym same)
      (subst (λ r. ArePhasesHeld y w r a) (sym left)
      (subst (λ mss. all_held y.shape (targets_of w (flat_map (λ ns. ns) mss)) ≡ true) (sym are) held))

  phases-held : (ns : List NodeId) → phases_of e.world.script (with_stmt e a).planned a ≡ ns ∷ [] → ArePhasesHeld y f.world f.planned a
  phases-held ns are =
      let now : EndsAs w (phases w a (ns ∷ []) q) None f.planned x y = course-by (ns ∷ []) are in
      let left : f.planned ≡ q = now.planned ∙ joined-still (fault_of_phase w q a ns) (phase w a ns q) in
      let held : all_held y.shape (targets_of w ns) ≡ true = one-held (net_in w f.planned) (fault_of_phase w q a ns) w a ns q x y refl now.fault
      (now.run f.planned (subst (λ r. IsFrontOf r f.planned) now.planned (front-same f.planned))) in
      held-as (ns ∷ []) are left (subst (λ ms. all_held y.shape (targets_of w ms) ≡ true) (sym (append-nil ns)) held)

  no_phase-held : phases_of e.world.script (with_stmt e a).planned a ≡ [] → ArePhasesHeld y f.world f.planned a
  no_phase-held are = held-as [] are (course-by [] are).planned refl

pub action-held : (e f : PlannedWorld) (a : ℕ) → 1 ≤ a → a ≤ length e.world.script → IsSome (action_answer (loaded_in e.world) a) → was_added e.planned a ≡ false → (x y : Point)
    → f.world ≡ e.world → EndsAs e.world (forced e.world e.planned a) None f.planned x y → all_held y.shape (targets_of f.world (flat_map (λ ns. ns) (phases_of f.world.script f.planned a))) ≡ true
action-held e f a low high is fresh x y same ends =
    let one = one-phase e.world a low high is (with_stmt e a).planned in
    elim (phase_at-cases one.0) [
      | inl none ↦ no_phase-held e f a fresh x y same ends (one.1 ∙ none)
      | inr some ↦ phases-held e f a fresh x y same ends one.0 (one.1 ∙ some)
    ]
