-- The steps by which a statement is added, as the code takes them.
use Rattle.std.proofs.Common.{◌≡◌, ℕ, ◌<◌, ◌≤◌, ◌+◌, ◌-◌, ◌++◌, List, [], ◌∷◌, length, take, None, get_or, sym, ap, ap₂, subst, ◌∙◌, arith}
use Rattle.std.specs.List.{AllByRecursion}
use Rattle.std.proofs.lemmas.List.{length-append}
use Rattle.std.proofs.Math.Seq.{take-append_seam}
use Rattle.gx_lineage.specs.Nodes.{Node}
use Rattle.gx_types_stmts.specs.StmtNumbers.{named_numbers}
use Rattle.gx_plan.specs.PlanInvariant.{IsFrontOf, IsPlan, MayAdd, MayPush, MayPushAll}
use Rattle.gx_plan.specs.Plans.{IsAdded, Planned, PlannedScript, first_planned, inputs_of, node_kind_by, own_recipes, result_of, with_number, with_recipe, with_recipes, with_result}
use Rattle.gx_plan.specs.StmtNodes.{ScriptWithCut, feeds, statement_of}
use Rattle.gx_plan.specs.declared.recipe.Recipe.{Recipe}
use Rattle.gx_plan.specs.declared.result_nodes.ResultNodes.{ResultNodes}
use Rattle.gx_plan.specs.OneNodeLaws.{pushed}
use Rattle.gx_plan.specs.OneStatementLaws.{added-front, added-plan, own-may}

pub pushed-as : (source other : ScriptWithCut) (p q : Planned) (r : Recipe) → MayPush source p r → other ≡ source → q ≡ with_recipe source p r → IsPlan other q
pushed-as source other p q r may same is =
    subst (λ (t : ScriptWithCut). IsPlan t q) (sym same) (subst (IsPlan source) (sym is) (pushed source p r may))

-- the first of several recipes, and the others
split-may : (w : PlannedScript) (r : Recipe) (rs rest : List Recipe) → rs ≡ r ∷ rest → MayPushAll w.source w.planned rs → MayPushAll w.source w.planned (r ∷ rest)
split-may w r rs rest split may = subst (MayPushAll w.source w.planned) split may

pub rest-may : (w v : PlannedScript) (r : Recipe) (rs rest : List Recipe) → rs ≡ r ∷ rest → v ≡ record w { planned = with_recipe w.source w.planned r }
    → MayPushAll w.source w.planned rs → MayPushAll v.source v.planned rest
rest-may w v r rs rest split is may =
    subst (λ (u : PlannedScript). MayPushAll u.source u.planned rest) (sym is) (split-may w r rs rest split may).1

pub rest-room : (w v : PlannedScript) (r : Recipe) (rs rest : List Recipe) (room : ℕ) → rs ≡ r ∷ rest → v ≡ record w { planned = with_recipe w.source w.planned r }
    → length w.planned.lineage.nodes + length rs < room → length v.planned.lineage.nodes + length rest < room
rest-room w v r rs rest room split is below =
    let node : Node = record { kind = node_kind_by w.source r; inputs = inputs_of w.planned (feeds w.source r) } in
    let longer : length v.planned.lineage.nodes ≡ length w.planned.lineage.nodes + 1 =
    ap (λ (u : PlannedScript). length u.planned.lineage.nodes) is ∙ length-append w.planned.lineage.nodes (node ∷ []) in
    let count : length rs ≡ length (r ∷ rest) = ap length split in
    omega (arith, longer, count, below)

-- the node that was added last, taken back
pub taken-back : (source : ScriptWithCut) (p : Planned) (r : Recipe) → length p.recipes ≡ length p.lineage.nodes → first_planned (length p.lineage.nodes) (with_recipe source p r) ≡ p
taken-back source p r long =
    let node : Node = record { kind = node_kind_by source r; inputs = inputs_of p (feeds source r) } in
    let nodes : take (length p.lineage.nodes) (p.lineage.nodes ++ node ∷ []) ≡ p.lineage.nodes = take-append_seam p.lineage.nodes (node ∷ []) in
    let recipes : take (length p.lineage.nodes) (p.recipes ++ r ∷ []) ≡ p.recipes = ap (λ n. take n (p.recipes ++ r ∷ [])) (sym long) ∙ take-append_seam p.recipes (r ∷ []) in
    ap₂ (λ (ns : List Node) (rs : List Recipe). let q : Planned = record p { lineage = record p.lineage { nodes = ns }; recipes = rs } in q) nodes recipes

pub back-plan : (w v : PlannedScript) (n : ℕ) (r : Recipe) (rs rest : List Recipe) → rs ≡ r ∷ rest → v ≡ record w { planned = with_recipe w.source w.planned r } → n ≡ length w.planned.lineage.nodes
    → MayPushAll w.source w.planned rs → IsPlan v.source (first_planned n v.planned)
back-plan w v n r rs rest split is at may =
    let plan : IsPlan w.source w.planned = (split-may w r rs rest split may).0.plan in
    subst (λ (u : PlannedScript). IsPlan u.source (first_planned n u.planned)) (sym is)
    (subst (λ (m : ℕ). IsPlan w.source (first_planned m (with_recipe w.source w.planned r))) (sym at)
    (subst (IsPlan w.source) (sym (taken-back w.source w.planned r plan.recipes)) plan))

-- ---- a whole statement

pub may-add : (source : ScriptWithCut) (p : Planned) (s : ℕ) → IsPlan source p → 1 ≤ s → s ≤ length source.script → AllByRecursion (IsAdded p) (named_numbers (statement_of source.script s)) → MayAdd source p s
may-add source p s plan from_one within named = record { plan = plan; from_one = from_one; within = within; named = named }

pub recipes-may : (source : ScriptWithCut) (p : Planned) (s : ℕ) (rs : List Recipe) → MayAdd source p s → rs ≡ own_recipes p s (statement_of source.script s) → MayPushAll source p rs
recipes-may source p s rs may is = subst (MayPushAll source p) (sym is) (own-may source p s may)

pub settled : (w v : PlannedScript) (s : ℕ) (rs : List Recipe) (l : ResultNodes) → MayAdd w.source w.planned s → rs ≡ own_recipes w.planned s (statement_of w.source.script s)
    → v ≡ record w { planned = with_recipes w.source w.planned rs } → l ≡ result_of w.planned (statement_of w.source.script s) → IsPlan v.source (with_result v.planned s l)
settled w v s rs l may own is found =
    subst (λ (u : PlannedScript). IsPlan u.source (with_result u.planned s l)) (sym is)
    (subst (λ (os : List Recipe). IsPlan w.source (with_result (with_recipes w.source w.planned os) s l)) (sym own)
    (subst (λ (m : ResultNodes). IsPlan w.source (with_result (with_recipes w.source w.planned (own_recipes w.planned s (statement_of w.source.script s))) s m)) (sym found)
    (added-plan w.source w.planned s may)))

pub front-as : (w u : PlannedScript) (s : ℕ) → 1 ≤ s → get_or w.planned.results (s - 1) None ≡ None → u ≡ record w { planned = with_number w.source w.planned s } → IsFrontOf w.planned u.planned
front-as w u s from_one fresh is =
    subst (λ (x : PlannedScript). IsFrontOf w.planned x.planned) (sym is) (added-front w.source w.planned s from_one fresh)
