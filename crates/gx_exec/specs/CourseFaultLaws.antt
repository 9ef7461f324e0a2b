-- The fault at which the course of a statement ends is that of the model.
use Rattle.std.proofs.Common.{◌≡◌, ℕ, zero, suc, ◌+◌, ◌-◌, ◌<◌, ◌≤◌, Bool, true, false, if◌then◌else◌, List, [], ◌∷◌, ◌++◌, Option, Some, None, length, map, unwrap_or, option_map, refl, sym, ap, ap₂, ◌∙◌, subst, append_assoc, arith}
use Rattle.std.proofs.lemmas.List.{get_or_append_left, length-append}
use Rattle.std.proofs.Math.Seq.{get_or-append_seam}
use Rattle.std.specs.List.{AllByRecursion, slice_get}
use Rattle.std.specs.Option.{option_and_then, option_or}
use Rattle.gx_lineage.specs.declared.node_id.NodeId.{NodeId}
use Rattle.gx_model.specs.ScriptMeaning.{fault_of_number, plain_values}
use Rattle.gx_model.specs.StmtFaults.{fault_of_stmt}
use Rattle.gx_plan.specs.PlanInvariant.{IsFrontOf}
use Rattle.gx_plan.specs.Plans.{Planned, nodes_of, own_recipes, phase_at, phases_of, recipe_at, with_number}
use Rattle.gx_plan.specs.Recipes.{recipe_of}
use Rattle.gx_plan.specs.StmtNodes.{demanded_by, own_kinds, statement_of}
use Rattle.gx_plan.specs.declared.kind.Kind.{Kind}
use Rattle.gx_plan.specs.declared.recipe.Recipe.{Recipe}
use Rattle.gx_plan.specs.OneStatementLaws.{added-front}
use Rattle.gx_rows.specs.declared.fault.Fault.{Fault}
use Rattle.gx_types_stmts.specs.declared.checked_stmt.CheckedStmt.{CheckedStmt}
use Rattle.gx_types_stmts.specs.declared.typed_stmt.TypedStmt.{TypedStmt}
use Rattle.gx_types_stmts.specs.declared.typed_stmt.TypedStmt.TheVariants as stmts
use Rattle.gx_exec_contents.specs.PartContents.{fault_kind, first_given}
use Rattle.gx_exec_contents.specs.PhaseFaults.{fault_in, fault_of_stop}
use Rattle.gx_exec_contents.specs.Worlds.{IsSetting, World, loaded_in, source_of}
use Rattle.gx_exec_work.specs.Works.{PlannedWorld}
use Rattle.gx_exec.specs.Courses.{Course, fault_of_phase, forced, forced_all, joined, phase, phases, still, was_added}
use Rattle.gx_exec.specs.Engines.{AreQuiet, IsSteady, MayForce}
use Rattle.gx_exec.specs.CourseRunLaws.{front-same, joined-front}
use Rattle.gx_exec.specs.FreshStatementLaws.{fresh-result}
use Rattle.gx_exec.specs.PhaseOrderLaws.{demanded-earlier, fresh-front, nodes_from, phases-are, recipes-after}
use Rattle.gx_exec.specs.ModelFaultLaws.{model-fault}
use Rattle.gx_exec.specs.QuietPlanLaws.{quiet-fault}

-- ---- the plan of a course

joined-planned : (f : Option Fault) (a b : Course) (p : Planned) → a.planned ≡ p → b.planned ≡ p → (joined f a b).planned ≡ p
joined-planned None a b p one other = other
joined-planned (Some f) a b p one other = one

pub phases-planned : (w : World) (s : ℕ) (nss : List (List NodeId)) (p : Planned) → (phases w s nss p).planned ≡ p
phases-planned w s [] p = refl
phases-planned w s (ns ∷ nss) p = joined-planned (fault_of_phase w p s ns) (phase w s ns p) (phases w s nss p) p refl (phases-planned w s nss p)

pub front-forced : (w : World) (p : Planned) (s : ℕ) → 1 ≤ s → IsFrontOf p (forced w p s).planned
front-forced w p s from_one = by (was_added p s) refl
  where
    by : (b : Bool) → was_added p s ≡ b → IsFrontOf p (if b then still p else phases w s (phases_of w.script (with_number (source_of w) p s) s) (with_number (source_of w) p s)).planned
    by true e = front-same p
    by false e =
        subst (IsFrontOf p) (sym (phases-planned w s (phases_of w.script (with_number (source_of w) p s) s) (with_number (source_of w) p s)))
        (added-front (source_of w) p s from_one (fresh-result p s e))

pub front-forced_all : (w : World) (p : Planned) (ss : List ℕ) → AllByRecursion (λ s. 1 ≤ s) ss → IsFrontOf p (forced_all w p ss).planned
front-forced_all w p [] low = front-same p
front-forced_all w p (s ∷ ss) low =
    joined-front (forced w p s).fault (forced w p s) (forced_all w (forced w p s).planned ss) p (front-forced w p s low.0) (front-forced_all w (forced w p s).planned ss low.1)

-- ---- the first fault of phases

joined-fault : (f : Option Fault) (a b : Course) → a.fault ≡ f → (joined f a b).fault ≡ option_or f b.fault
joined-fault None a b e = refl
joined-fault (Some f) a b e = e

phases-fault : (w : World) (s : ℕ) (nss : List (List NodeId)) (p : Planned) → (phases w s nss p).fault ≡ first_given (fault_of_phase w p s) nss
phases-fault w s [] p = refl
phases-fault w s (ns ∷ nss) p =
    joined-fault (fault_of_phase w p s ns) (phase w s ns p) (phases w s nss p) refl
    ∙ ap (option_or (fault_of_phase w p s ns)) (phases-fault w s nss p)

or-assoc : {A : Type 0} (x y z : Option A) → option_or (option_or x y) z ≡ option_or x (option_or y z)
or-assoc None y z = refl
or-assoc (Some x) y z = refl

first_given-append : {X A : Type 0} (f : X → Option A) (xs ys : List X) → first_given f (xs ++ ys) ≡ option_or (first_given f xs) (first_given f ys)
first_given-append f [] ys = refl
first_given-append f (x ∷ xs) ys = ap (option_or (f x)) (first_given-append f xs ys) ∙ sym (or-assoc (f x) (first_given f xs) (first_given f ys))

or-none : {A : Type 0} (x : Option A) → option_or x None ≡ x
or-none None = refl
or-none (Some x) = refl

-- the phases of own nodes
own-faults : (w : World) (q : Planned) (s : ℕ) (before : List Recipe) (ks : List Kind) (n : ℕ) → q.recipes ≡ before ++ map (λ k. recipe_of k s) ks → n ≡ length before
    → first_given (fault_of_phase w q s) (nodes_from n (length ks)) ≡ first_given (λ k. option_map (fault_of_stop s) (fault_kind w k (recipe_of k s) (λ g. g) (statement_of w.script s))) ks
own-faults w q s before [] n is at = refl
own-faults w q s before (k ∷ ks) n is at =
    let here : recipe_at q.recipes n ≡ recipe_of k s = ap₂ recipe_at is at ∙ get_or-append_seam before (recipe_of k s) (map (λ j. recipe_of j s) ks) _ in
    ap₂ option_or
    (ap (option_map (fault_of_stop s)) (or-none (fault_in w (recipe_at q.recipes n)))
    ∙ ap (λ r. option_map (fault_of_stop s) (fault_in w r)) here)
    (own-faults w q s (before ++ recipe_of k s ∷ []) ks (n + 1)
    (is ∙ sym (append_assoc before (recipe_of k s ∷ []) (map (λ j. recipe_of j s) ks)))
    (omega (arith, at, length-append before (recipe_of k s ∷ []))))

-- phases of nodes that were judged before
earlier-faults : (w : World) (q : Planned) (s m : ℕ) (nss : List (List NodeId)) → ((n : NodeId) → n.0 < m → fault_in w (recipe_at q.recipes n.0) ≡ None)
    → AllByRecursion (λ ns. AllByRecursion (λ n. n.0 < m) ns) nss → first_given (fault_of_phase w q s) nss ≡ None
earlier-faults w q s m [] none below = refl
earlier-faults w q s m (ns ∷ nss) none below =
    ap₂ option_or (ap (option_map (fault_of_stop s)) (each ns below.0)) (earlier-faults w q s m nss none below.1)
  where
    each : (ns : List NodeId) → AllByRecursion (λ n. n.0 < m) ns → first_given (λ n. fault_in w (recipe_at q.recipes n.0)) ns ≡ None
    each [] below = refl
    each (n ∷ ns) below = ap₂ option_or (none n below.0) (each ns below.1)

-- ---- the model's fault

pub found-statement : (script : List CheckedStmt) (k : ℕ) → k < length script → slice_get (map (λ c. c.stmt) script) k ≡ Some (unwrap_or (option_map (λ c. c.stmt) (slice_get script k)) (stmts.CountTable 0))
found-statement [] k within = absurd (omega (arith, within))
found-statement (c ∷ script) zero within = refl
found-statement (c ∷ script) (suc k) within = found-statement script k (omega (arith, within))

number-fault : (w : World) (s : ℕ) → 1 ≤ s → s ≤ length w.script → fault_of_number (loaded_in w) s ≡ fault_of_stmt (plain_values (loaded_in w)) s (statement_of w.script s)
number-fault w s low high =
    ap (option_and_then (fault_of_stmt (plain_values (loaded_in w)) s)) (found-statement w.script (s - 1) (omega (arith, low, high)))

module _ (e : PlannedWorld) (setting : IsSetting e.world e.planned) (s : ℕ) (may : MayForce e s) where
  abbrev w : World
  w = e.world

  abbrev p : Planned
  p = e.planned

  abbrev q : Planned
  q = with_number (source_of e.world) e.planned s

  abbrev st : TypedStmt
  st = statement_of e.world.script s

  fresh-fault : AreQuiet e → was_added p s ≡ false → (phases w s (phases_of w.script q s) q).fault ≡ fault_of_number (loaded_in w) s
  fresh-fault quiet fresh =
      let demanded = phase_at (nodes_of q (demanded_by st)) in
      let own = nodes_from (length p.lineage.nodes) (length (own_kinds st)) in
      let is_front : IsFrontOf p q = fresh-front e setting s may fresh in
      phases-fault w s (phases_of w.script q s) q
      ∙ ap (first_given (fault_of_phase w q s)) (phases-are e setting s may fresh)
      ∙ first_given-append (fault_of_phase w q s) own demanded
      ∙ ap₂ option_or
      (own-faults w q s p.recipes (own_kinds st) (length p.lineage.nodes) (recipes-after e setting s may fresh) (sym setting.plan.recipes)
      ∙ model-fault w s st ∙ sym (number-fault w s may.from_one may.within))
      (earlier-faults w q s (length p.lineage.nodes) demanded
      (λ n below. ap (fault_in w) (kept-recipe n below) ∙ quiet-fault w p setting quiet n below)
      (demanded-earlier e setting s may fresh))
      ∙ or-none (fault_of_number (loaded_in w) s)
    where
      kept-recipe : (n : NodeId) → n.0 < length p.lineage.nodes → recipe_at q.recipes n.0 ≡ recipe_at p.recipes n.0
      kept-recipe n below =
          ap (λ rs. recipe_at rs n.0) (recipes-after e setting s may fresh)
          ∙ get_or_append_left p.recipes (own_recipes p s st) _ n.0 (omega (arith, below, setting.plan.recipes))

  pub forced-fault : IsSteady e → (forced e.world e.planned s).fault ≡ fault_of_number (loaded_in e.world) s
  forced-fault steady = by (was_added p s) refl
    where
      by : (b : Bool) → was_added p s ≡ b → (if b then still p else phases w s (phases_of w.script q s) q).fault ≡ fault_of_number (loaded_in w) s
      by true was = sym (steady.clean s (record { from_one = may.from_one; within = omega (arith, may.within, setting.plan.results); result = was }))
      by false fresh = fresh-fault steady.quiet fresh
