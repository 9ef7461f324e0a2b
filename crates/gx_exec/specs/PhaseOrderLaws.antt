-- The phases of a statement that was just added are in order.
use Rattle.std.proofs.Common.{◌≡◌, ℕ, zero, suc, ◌+◌, ◌-◌, ◌<◌, ◌≤◌, ◌==◌, Bool, true, false, if◌then◌else◌, List, [], ◌∷◌, ◌++◌, inl, inr, Option, Some, None, get_or, length, map, unwrap_or, refl, sym, ap, ◌∙◌, subst, arith}
use Rattle.std.proofs.lemmas.List.{length-append, length-map}
use Rattle.std.specs.List.{AllByRecursion, cons_option, flat_map, range_with_len}
use Rattle.std.specs.Option.{option_or}
use Rattle.gx_lineage.specs.declared.node_id.NodeId.{NodeId}
use Rattle.gx_plan.specs.PlanInvariant.{IsFrontOf, IsNodeFor, IsPlan}
use Rattle.gx_plan.specs.Plans.{IsAdded, Planned, inherited_node, no_nodes, node_in, node_of, nodes_of, own_node, own_phases, own_recipes, phase_at, phases_of, result_node, result_of, with_number}
use Rattle.gx_plan.specs.Recipes.{is_result, recipe_of}
use Rattle.gx_plan.specs.StmtNodes.{ScriptWithCut, demanded_by, inherits, own_kinds, statement_of}
use Rattle.gx_plan.specs.declared.kind.Kind.{Kind}
use Rattle.gx_plan.specs.declared.kind.Kind.TheVariants.{Vertices, Edges}
use Rattle.gx_plan.specs.declared.recipe.Recipe.{Recipe}
use Rattle.gx_plan.specs.FrontLaws.{front-node_of}
use Rattle.gx_plan.specs.OneStatementLaws.{added-front, added-plan, recipes-kept}
use Rattle.gx_types_stmts.specs.StmtNumbers.{named_numbers}
use Rattle.gx_types_stmts.specs.declared.typed_stmt.TypedStmt.{TypedStmt}
use Rattle.gx_types_stmts.specs.declared.typed_stmt.TypedStmt.TheVariants as stmts
use Rattle.gx_exec_contents.specs.Worlds.{IsSetting, World, source_of}
use Rattle.gx_exec_work.specs.Works.{PlannedWorld}
use Rattle.gx_exec.specs.Courses.{was_added}
use Rattle.gx_exec.specs.Engines.{AreQuiet, MayForce}
use Rattle.gx_exec.specs.Phases.{AreFaultless, AreInOrder, AreNext}
use Rattle.gx_exec.specs.FreshStatementLaws.{fresh-result, result-here}
use Rattle.gx_exec.specs.QuietPlanLaws.{quiet-kept}

-- ---- lists of phases

-- the phase of one node
abbrev pub one_node : ℕ → List NodeId
one_node n = record { 0 = n } ∷ []

-- the phases of so many nodes from number n on
abbrev pub nodes_from : ℕ → ℕ → List (List NodeId)
nodes_from n count = map one_node (range_with_len n count)

-- at most one node of each kind
abbrev are_distinct : List Kind → Bool
are_distinct [] = true
are_distinct (k ∷ []) = true
are_distinct (Vertices ∷ Edges ∷ []) = true
are_distinct (Edges ∷ Vertices ∷ []) = true
are_distinct _ = false

own-distinct : (st : TypedStmt) → are_distinct (own_kinds st) ≡ true
own-distinct (stmts.Mask g by) = refl
own-distinct _ = refl

-- each own node is found where it was added
own-nodes : (ks : List Kind) (n : ℕ) (taken : Kind → Option NodeId) → are_distinct ks ≡ true
    → flat_map (λ k. phase_at (cons_option (option_or (own_node n k ks) (taken k)) [])) ks ≡ nodes_from n (length ks)
own-nodes [] n taken e = refl
own-nodes (Vertices ∷ []) n taken e = refl
own-nodes (Edges ∷ []) n taken e = refl
own-nodes (Vertices ∷ Edges ∷ []) n taken e = refl
own-nodes (Edges ∷ Vertices ∷ []) n taken e = refl
own-nodes (Vertices ∷ Vertices ∷ []) n taken e = cc
own-nodes (Edges ∷ Edges ∷ []) n taken e = cc
own-nodes (Vertices ∷ Vertices ∷ k ∷ ks) n taken e = cc
own-nodes (Vertices ∷ Edges ∷ k ∷ ks) n taken e = cc
own-nodes (Edges ∷ Vertices ∷ k ∷ ks) n taken e = cc
own-nodes (Edges ∷ Edges ∷ k ∷ ks) n taken e = cc

-- the node of a result that was just added
node_of-fresh : (p q : Planned) (s : ℕ) (st : TypedStmt) (k : Kind) → get_or q.results (s - 1) None ≡ Some (result_of p st) → node_of q (recipe_of k s) ≡ result_node p k st
node_of-fresh p q s st Vertices at = ap (λ o. node_in Vertices (unwrap_or o no_nodes)) at
node_of-fresh p q s st Edges at = ap (λ o. node_in Edges (unwrap_or o no_nodes)) at

-- ---- in order

no_gap : (w : World) (p : Planned) (n : ℕ) → n ≤ length p.lineage.nodes → AreFaultless w p n n
no_gap w p n within = record { order = omega arith; within = within; none = λ k from below. absurd (omega (arith, from, below)) }

order-from : (w : World) (p : Planned) (n count : ℕ) (rest : List (List NodeId)) → n + count ≤ length p.lineage.nodes → AreInOrder w p (n + count) rest → AreInOrder w p n (nodes_from n count ++ rest)
order-from w p n zero rest within order = subst (λ m. AreInOrder w p m rest) (let same : n + 0 ≡ n = omega arith in same) order
order-from w p n (suc count) rest within order = (
  n,
  (
    no_gap w p n (omega (arith, within)),
    inr (
      refl,
      order-from w p (n + 1) count rest (omega (arith, within))
          (subst (λ m. AreInOrder w p m rest) (let same : n + suc count ≡ n + 1 + count = omega arith in same) order),
    ),
  ),
)

order-earlier : (w : World) (p : Planned) (n : ℕ) (phases : List (List NodeId)) → n ≡ length p.lineage.nodes → AllByRecursion (λ ns. AllByRecursion (λ m. m.0 < n) ns) phases → AreInOrder w p n phases
order-earlier w p n [] last below = subst (AreFaultless w p n) last (no_gap w p n (omega (arith, last)))
order-earlier w p n (ns ∷ phases) last below = (n, (no_gap w p n (omega (arith, last)), inl (below.0, order-earlier w p n phases last below.1)))

-- ---- what an action demands

pub demanded-named : (P : ℕ → Type 0) (st : TypedStmt) → AllByRecursion P (named_numbers st) → AllByRecursion (λ r. (is_result r.kind ≡ true) × P r.statement) (demanded_by st)
demanded-named P (stmts.PrintVertices g) h = ((refl, h.0), tt)
demanded-named P (stmts.PrintEdges g) h = ((refl, h.0), tt)
demanded-named P (stmts.PrintTable t) h = ((refl, h.0), tt)
demanded-named P (stmts.CountVertices g) h = ((refl, h.0), tt)
demanded-named P (stmts.CountEdges g) h = ((refl, h.0), tt)
demanded-named P (stmts.CountTable t) h = ((refl, h.0), tt)
demanded-named P _ h = tt

-- what holds of all nodes holds of those of their phase
phase-all : (P : NodeId → Type 0) (ns : List NodeId) → AllByRecursion P ns → AllByRecursion (λ ms. AllByRecursion P ms) (phase_at ns)
phase-all P ns all = by (length ns == 0)
  where
    by : (b : Bool) → AllByRecursion (λ ms. AllByRecursion P ms) (if b then [] else ns ∷ [])
    by true = tt
    by false = (all, tt)

module _ (e : PlannedWorld) (setting : IsSetting e.world e.planned) (s : ℕ) (may : MayForce e s) (fresh : was_added e.planned s ≡ false) where
  abbrev source : ScriptWithCut
  source = source_of e.world

  abbrev p : Planned
  p = e.planned

  abbrev q : Planned
  q = with_number (source_of e.world) e.planned s

  abbrev st : TypedStmt
  st = statement_of e.world.script s

  pub fresh-front : IsFrontOf e.planned (with_number (source_of e.world) e.planned s)
  fresh-front = added-front source p s may.from_one (fresh-result p s fresh)

  pub fresh-plan : IsPlan (source_of e.world) (with_number (source_of e.world) e.planned s)
  fresh-plan = added-plan source p s (record { plan = setting.plan; from_one = may.from_one; within = may.within; named = may.named })

  pub recipes-after : (with_number (source_of e.world) e.planned s).recipes ≡ e.planned.recipes ++ own_recipes e.planned s (statement_of e.world.script s)
  recipes-after = recipes-kept source p (own_recipes p s st)

  pub nodes-after : length (with_number (source_of e.world) e.planned s).lineage.nodes ≡ length e.planned.lineage.nodes + length (own_kinds (statement_of e.world.script s))
  nodes-after =
      let long : length q.recipes ≡ length p.recipes + length (own_recipes p s st) = ap length recipes-after ∙ length-append p.recipes (own_recipes p s st) in
      let own : length (own_recipes p s st) ≡ length (own_kinds st) = length-map (own_kinds st) (λ k. recipe_of k s) in
      omega (arith, fresh-plan.recipes, setting.plan.recipes, long, own)

  node-of_result : (k : Kind) → node_of q (recipe_of k s) ≡ option_or (own_node (length p.lineage.nodes) k (own_kinds st)) (inherited_node p k (inherits k st))
  node-of_result k = node_of-fresh p q s st k (result-here source p s may.from_one setting.plan may.within)

  pub own-phases-are : own_phases (with_number (source_of e.world) e.planned s) s (own_kinds (statement_of e.world.script s))
      ≡ nodes_from (length e.planned.lineage.nodes) (length (own_kinds (statement_of e.world.script s)))
  own-phases-are =
      ap (λ f. flat_map f (own_kinds st)) (λ i k. phase_at (cons_option (node-of_result k i) []))
      ∙ own-nodes (own_kinds st) (length p.lineage.nodes) (λ k. inherited_node p k (inherits k st)) (own-distinct st)

  -- the phases of its own nodes, and then what it demands
  pub phases-are : phases_of e.world.script (with_number (source_of e.world) e.planned s) s
      ≡ nodes_from (length e.planned.lineage.nodes) (length (own_kinds (statement_of e.world.script s)))
      ++ phase_at (nodes_of (with_number (source_of e.world) e.planned s) (demanded_by (statement_of e.world.script s)))
  phases-are = ap (λ nss. nss ++ phase_at (nodes_of q (demanded_by st))) own-phases-are

  earlier-node : (r : Recipe) (o : Option NodeId) (ns : List NodeId) → IsNodeFor e.world.script p.recipes r o → AllByRecursion (λ m. m.0 < length p.lineage.nodes) ns
      → AllByRecursion (λ m. m.0 < length p.lineage.nodes) (cons_option o ns)
  earlier-node r None ns stands rest = rest
  earlier-node r (Some n) ns stands rest = (omega (arith, stands.inside, setting.plan.recipes), rest)

  earlier-nodes : (rs : List Recipe) → AllByRecursion (λ r. (is_result r.kind ≡ true) × IsAdded p r.statement) rs → AllByRecursion (λ m. m.0 < length p.lineage.nodes) (nodes_of q rs)
  earlier-nodes [] added = tt
  earlier-nodes (r ∷ rs) added =
      subst (λ o. AllByRecursion (λ m. m.0 < length p.lineage.nodes) (cons_option o (nodes_of q rs))) (sym (front-node_of p q fresh-front r added.0.0 added.0.1))
      (earlier-node r (node_of p r) (nodes_of q rs) (setting.plan.nodes r added.0.0 added.0.1) (earlier-nodes rs added.1))

  pub demanded-earlier : AllByRecursion (λ ns. AllByRecursion (λ m. m.0 < length e.planned.lineage.nodes) ns) (phase_at (nodes_of (with_number (source_of e.world) e.planned s) (demanded_by (statement_of e.world.script s))))
  demanded-earlier = phase-all (λ m. m.0 < length p.lineage.nodes) (nodes_of q (demanded_by st)) (earlier-nodes (demanded_by st) (demanded-named (IsAdded p) st may.named))

  later-below : (m n : ℕ) (nss : List (List NodeId)) → m ≤ n → AllByRecursion (λ ns. AllByRecursion (λ x. x.0 < m) ns) nss → AllByRecursion (λ ns. AllByRecursion (λ x. x.0 < n) ns) nss
  later-below m n [] less below = tt
  later-below m n (ns ∷ nss) less below = (by ns below.0, later-below m n nss less below.1)
    where
      by : (ns : List NodeId) → AllByRecursion (λ x. x.0 < m) ns → AllByRecursion (λ x. x.0 < n) ns
      by [] below = tt
      by (x ∷ ns) below = (omega (arith, less, below.0), by ns below.1)

  -- the phases of a statement that was just added are next
  pub phases-next : AreQuiet e → AreNext (record { world = e.world; planned = with_number (source_of e.world) e.planned s }) (phases_of e.world.script (with_number (source_of e.world) e.planned s) s)
  phases-next quiet = record {
    at = length p.lineage.nodes;
    quiet = quiet-kept e.world p q setting fresh-front quiet;
    order = subst (AreInOrder e.world q (length p.lineage.nodes)) (sym phases-are)
        (order-from e.world q (length p.lineage.nodes) (length (own_kinds st)) (phase_at (nodes_of q (demanded_by st))) (omega (arith, nodes-after))
        (order-earlier e.world q (length p.lineage.nodes + length (own_kinds st)) (phase_at (nodes_of q (demanded_by st))) (sym nodes-after)
        (later-below (length p.lineage.nodes) (length p.lineage.nodes + length (own_kinds st)) (phase_at (nodes_of q (demanded_by st))) (omega arith) demanded-earlier)));
  }
