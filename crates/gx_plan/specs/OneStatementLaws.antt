-- A plan with one more statement.
--
-- All is said of `with_statement` over any plan q, so that a plan to which the view of a statement
-- was added may stand for it. Only the last part speaks of `with_number`.
use Rattle.std.proofs.Common.{◌≡◌, ◌≢◌, ℕ, ◌<◌, ◌≤◌, ◌-◌, Bool, true, false, ◌||◌, List, [], ◌∷◌, ◌++◌, length, map, set, Option, Some, None, get_or, is_some, unwrap_or, sym, ap, subst, ◌∙◌, refl, inl, inr, append_assoc, arith}
use Rattle.std.specs.List.{AllByRecursion, list_any}
use Rattle.std.specs.Option.{option_or}
use Rattle.std.proofs.lemmas.Bool.{cases_lt}
use Rattle.std.proofs.lemmas.List.{append-nil, get_or-set_other, get_or-set_same, length-set}
use Rattle.gx_lineage.specs.declared.node_id.NodeId.{NodeId}
use Rattle.gx_lineage.specs.Nodes.{Node}
use Rattle.gx_types_stmts.specs.declared.checked_stmt.CheckedStmt.{CheckedStmt}
use Rattle.gx_types_stmts.specs.declared.typed_stmt.TypedStmt.{TypedStmt}
use Rattle.gx_plan.specs.PlanInvariant.{Fits, HasNodeFor, IsNodeFor, IsFrontOf, IsPlan, IsUnserved, MayAdd, MayPush, MayPushAll, Owns, Serves, is_own}
use Rattle.gx_plan.specs.PlanInvariant.Owns.{own, taken}
use Rattle.gx_plan.specs.Plans.{IsAdded, Planned, inherited_node, inputs_of, node_in, node_kind_by, node_of, no_nodes, own_node, own_recipes, recipe_at, result_node, result_of, with_number, with_recipe, with_recipes, with_statement}
use Rattle.gx_plan.specs.Recipes.{is_kind, is_result, recipe_of}
use Rattle.gx_plan.specs.StmtNodes.{ScriptWithCut, feeds, inherits, own_kinds, statement_of}
use Rattle.gx_plan.specs.declared.feed.Feed.{Feed}
use Rattle.gx_plan.specs.declared.kind.Kind.{Kind}
use Rattle.gx_plan.specs.declared.kind.Kind.TheVariants.{Vertices, Edges}
use Rattle.gx_plan.specs.declared.recipe.Recipe.{Recipe}
use Rattle.gx_plan.specs.declared.result_nodes.ResultNodes.{ResultNodes}
use Rattle.gx_plan.specs.NamedStatementLaws.{feeds-named, inherits-named}
use Rattle.gx_plan.specs.NodeLaws.{node-each, node-more, node_of-result, node_of-same}
use Rattle.gx_plan.specs.OneNodeLaws.{pushed}
use Rattle.gx_plan.specs.OwnNodeLaws.{IsOwnFound, is_kind-same, own-found}

-- ---- several nodes, one after the other

pub pushed-all : (source : ScriptWithCut) (p : Planned) (rs : List Recipe) → IsPlan source p → MayPushAll source p rs → IsPlan source (with_recipes source p rs)
pushed-all source p [] plan h = plan
pushed-all source p (r ∷ rs) plan h = pushed-all source (with_recipe source p r) rs (pushed source p r h.0) h.1

pub recipes-kept : (source : ScriptWithCut) (p : Planned) (rs : List Recipe) → (with_recipes source p rs).recipes ≡ p.recipes ++ rs
recipes-kept source p [] = sym (append-nil p.recipes)
recipes-kept source p (r ∷ rs) = recipes-kept source (with_recipe source p r) rs ∙ append_assoc p.recipes (r ∷ []) rs

pub results-kept : (source : ScriptWithCut) (p : Planned) (rs : List Recipe) → (with_recipes source p rs).results ≡ p.results
results-kept source p [] = refl
results-kept source p (r ∷ rs) = results-kept source (with_recipe source p r) rs

pub parts-kept : (source : ScriptWithCut) (p : Planned) (rs : List Recipe) → (with_recipes source p rs).lineage.parts ≡ p.lineage.parts
parts-kept source p [] = refl
parts-kept source p (r ∷ rs) = parts-kept source (with_recipe source p r) rs

pub nodes-kept : (source : ScriptWithCut) (p : Planned) (rs : List Recipe) → (more : List Node) × ((with_recipes source p rs).lineage.nodes ≡ p.lineage.nodes ++ more)
nodes-kept source p [] = ([], sym (append-nil p.lineage.nodes))
nodes-kept source p (r ∷ rs) =
    let q : Planned = with_recipe source p r in
    let one : List Node = record { kind = node_kind_by source r; inputs = inputs_of p (feeds source r) } ∷ [] in
    let rest : (more : List Node) × ((with_recipes source q rs).lineage.nodes ≡ q.lineage.nodes ++ more) = nodes-kept source q rs in
    (one ++ rest.0, rest.1 ∙ append_assoc p.lineage.nodes one rest.0)

-- ---- the own nodes of a statement may be added

read-named : (source : ScriptWithCut) (p : Planned) (fs : List Feed) → IsPlan source p → AllByRecursion (λ f. (is_result f.recipe.kind ≡ true) × IsAdded p f.recipe.statement) fs
    → AllByRecursion (λ f. HasNodeFor source.script p f.recipe) fs
read-named source p [] plan h = tt
read-named source p (f ∷ fs) plan h = (plan.nodes f.recipe h.0.0 h.0.1, read-named source p fs plan h.1)

fits : (k : Kind) (st : TypedStmt) (r : Recipe) → is_own k st ≡ true → Fits k st r
fits Vertices st r h = h
fits Edges st r h = h

one-may : (source : ScriptWithCut) (p : Planned) (s : ℕ) (k : Kind) → MayAdd source p s → is_own k (statement_of source.script s) ≡ true → MayPush source p (recipe_of k s)
one-may source p s k may own_kind = record {
  plan = may.plan;
  own = record { from_one = may.from_one; within = may.within; fit = fits k (statement_of source.script s) (recipe_of k s) own_kind };
  nodes = read-named source p (feeds source (recipe_of k s)) may.plan (feeds-named (IsAdded p) source (recipe_of k s) k (statement_of source.script s) may.named);
}

or-right : (a b : Bool) → b ≡ true → (a || b) ≡ true
or-right true b h = refl
or-right false b h = h

-- nodes that read none of each other
added-kept : (source : ScriptWithCut) (p : Planned) (r : Recipe) (ss : List ℕ) → AllByRecursion (IsAdded p) ss → AllByRecursion (IsAdded (with_recipe source p r)) ss
added-kept source p r [] h = tt
added-kept source p r (s ∷ ss) h = (record { from_one = h.0.from_one; within = h.0.within; result = h.0.result }, added-kept source p r ss h.1)

may-kept : (source : ScriptWithCut) (p : Planned) (s : ℕ) (r : Recipe) → MayAdd source p s → MayPush source p r → MayAdd source (with_recipe source p r) s
may-kept source p s r may push = record {
  plan = pushed source p r push;
  from_one = may.from_one;
  within = may.within;
  named = added-kept source p r _ may.named;
}

each-may : (source : ScriptWithCut) (p : Planned) (s : ℕ) (ks : List Kind) → MayAdd source p s → ((k : Kind) → list_any (is_kind k) ks ≡ true → is_own k (statement_of source.script s) ≡ true)
    → MayPushAll source p (map (λ k. recipe_of k s) ks)
each-may source p s [] may among = tt
each-may source p s (k ∷ ks) may among =
    let one : MayPush source p (recipe_of k s) = one-may source p s k may (among k (rw (is_kind-same k) refl)) in (
      one,
      each-may source (with_recipe source p (recipe_of k s)) s ks (may-kept source p s (recipe_of k s) may one)
          (λ j h. among j (or-right (is_kind j k) (list_any (is_kind j) ks) h)),
    )

pub own-may : (source : ScriptWithCut) (p : Planned) (s : ℕ) → MayAdd source p s → MayPushAll source p (own_recipes p s (statement_of source.script s))
own-may source p s may = each-may source p s (own_kinds (statement_of source.script s)) may (λ k h. h)

-- ---- the result of a statement

serves-own : (script : List CheckedStmt) (k : Kind) (s : ℕ) (made : Recipe) → made ≡ recipe_of k s → is_own k (statement_of script s) ≡ true → Serves script k (recipe_of k s) made
serves-own script Vertices s made is h = subst (λ (o : Recipe). Owns script Vertices s o.statement) (sym is) (own h)
serves-own script Edges s made is h = subst (λ (o : Recipe). Owns script Edges s o.statement) (sym is) (own h)

serves-taken : (script : List CheckedStmt) (k : Kind) (s m : ℕ) (made : Recipe) → inherits k (statement_of script s) ≡ Some m → Serves script k (recipe_of k m) made → Serves script k (recipe_of k s) made
serves-taken script Vertices s m made is h = taken is h
serves-taken script Edges s m made is h = taken is h

-- what is not the statement's own is that of the statement whose node it takes over
taken-from : (script : List CheckedStmt) (k : Kind) (s owner : ℕ) → is_own k (statement_of script s) ≡ false → Owns script k s owner → (m : ℕ) × ((inherits k (statement_of script s) ≡ Some m) × Owns script k m owner)
taken-from script k s _ none (own h) = cc
taken-from script k s owner none (taken {m = m} is h) = (m, (is, h))

-- no node serves a statement that owns none
unserved-by : (script : List CheckedStmt) (k : Kind) (s : ℕ) → ((owner : ℕ) → Owns script k s owner → ⊥) → IsUnserved script k (recipe_of k s)
unserved-by script Vertices s none = none
unserved-by script Edges s none = none

unowned-by : (script : List CheckedStmt) (k : Kind) (s : ℕ) → IsUnserved script k (recipe_of k s) → (owner : ℕ) → Owns script k s owner → ⊥
unowned-by script Vertices s none = none
unowned-by script Edges s none = none

inherited-found : (source : ScriptWithCut) (p : Planned) (k : Kind) (s : ℕ) (more : List Recipe) (o : Option ℕ) → is_result k ≡ true → MayAdd source p s → is_own k (statement_of source.script s) ≡ false
    → inherits k (statement_of source.script s) ≡ o → IsNodeFor source.script (p.recipes ++ more) (recipe_of k s) (inherited_node p k o)
inherited-found source p k s more None result may none is =
    unserved-by source.script k s (λ owner h. (let from_other = taken-from source.script k s owner none h in cc (from_other.1.0, is)))
inherited-found source p k s more (Some m) result may none is =
    by (node_of p (recipe_of k m)) (node-more source.script p.recipes more (recipe_of k m) (node_of p (recipe_of k m))
    (may.plan.nodes (recipe_of k m) result (inherits-named (IsAdded p) k (statement_of source.script s) m is may.named)))
  where
    by : (o : Option NodeId) → IsNodeFor source.script (p.recipes ++ more) (recipe_of k m) o → IsNodeFor source.script (p.recipes ++ more) (recipe_of k s) o
    by (Some n) h = record { inside = h.inside; kind = h.kind; serves = serves-taken source.script k s m (recipe_at (p.recipes ++ more) n.0) is h.serves }
    by None h = unserved-by source.script k s (λ owner owns. (let from_other = taken-from source.script k s owner none owns in
        let same : from_other.0 ≡ m = cc (from_other.1.0, is) in
        unowned-by source.script k m h owner (subst (λ (j : ℕ). Owns source.script k j owner) same from_other.1.1)))

result-found : (source : ScriptWithCut) (p : Planned) (s : ℕ) (k : Kind) → is_result k ≡ true → MayAdd source p s
    → IsNodeFor source.script (p.recipes ++ own_recipes p s (statement_of source.script s)) (recipe_of k s) (result_node p k (statement_of source.script s))
result-found source p s k result may =
    by (own_node (length p.lineage.nodes) k (own_kinds st)) (own-found p.recipes s k (own_kinds st) (length p.lineage.nodes) (sym may.plan.recipes))
  where
    st : TypedStmt
    st = statement_of source.script s

    all : List Recipe
    all = p.recipes ++ own_recipes p s st

    by : (o : Option NodeId) → IsOwnFound all s k (own_kinds st) o → IsNodeFor source.script all (recipe_of k s) (option_or o (inherited_node p k (inherits k st)))
    by (Some n) h = record { inside = h.inside; kind = ap (λ (r : Recipe). r.kind) h.recipe; serves = serves-own source.script k s (recipe_at all n.0) h.recipe h.among }
    by None h = inherited-found source p k s (own_recipes p s st) (inherits k st) result may h refl

node_in-result : (p : Planned) (st : TypedStmt) (k : Kind) → is_result k ≡ true → node_in k (result_of p st) ≡ result_node p k st
node_in-result p st Vertices is = refl
node_in-result p st Edges is = refl

pub statement-plan : (source : ScriptWithCut) (p : Planned) (s : ℕ) → MayAdd source p s → IsPlan source (with_statement source p s (statement_of source.script s))
statement-plan source p s may = record {
  recipes = q-plan.recipes;
  results = length-set q.results (s - 1) _ ∙ q-plan.results;
  nodes = λ r is added. nodes-at r is added;
  fed = q-plan.fed;
}
  where
    st : TypedStmt
    st = statement_of source.script s

    q : Planned
    q = with_recipes source p (own_recipes p s st)

    q-plan : IsPlan source q
    q-plan = pushed-all source p (own_recipes p s st) may.plan (own-may source p s may)

    l : ResultNodes
    l = result_of p st

    last : Planned
    last = with_statement source p s st

    here : (r : Recipe) → is_result r.kind ≡ true → s ≡ r.statement → HasNodeFor source.script last r
    here r is same =
        let inside : s - 1 < length q.results = omega (arith, may.from_one, may.within, q-plan.results) in
        let at : get_or (set q.results (s - 1) (Some l)) (r.statement - 1) None ≡ Some l
        = ap (λ j. get_or (set q.results (s - 1) (Some l)) (j - 1) None) (sym same) ∙ get_or-set_same q.results (s - 1) (Some l) None inside in
        let found : IsNodeFor source.script (p.recipes ++ own_recipes p s st) (recipe_of r.kind s) (node_in r.kind l) =
        subst (IsNodeFor source.script (p.recipes ++ own_recipes p s st) (recipe_of r.kind s)) (sym (node_in-result p st r.kind is)) (result-found source p s r.kind is may) in
        subst (IsNodeFor source.script q.recipes r) (sym (node_of-result last r.kind r (Some l) is at))
        (subst (λ xs. IsNodeFor source.script xs r (node_in r.kind l)) (sym (recipes-kept source p (own_recipes p s st)))
        (node-each source.script (p.recipes ++ own_recipes p s st) (recipe_of r.kind s) r (node_in r.kind l) refl same found))

    other : (r : Recipe) → is_result r.kind ≡ true → IsAdded last r.statement → r.statement - 1 ≢ s - 1 → HasNodeFor source.script last r
    other r is added apart =
        let at : get_or (set q.results (s - 1) (Some l)) (r.statement - 1) None ≡ get_or q.results (r.statement - 1) None = get_or-set_other q.results (s - 1) (r.statement - 1) (Some l) None apart in
        let before : IsAdded q r.statement = record {
          from_one = added.from_one;
          within = omega (arith, added.within, length-set q.results (s - 1) (Some l));
          result = ap is_some (sym at) ∙ added.result;
        } in
        subst (IsNodeFor source.script q.recipes r) (sym (node_of-same q last r.kind r is at)) (q-plan.nodes r is before)

    nodes-at : (r : Recipe) → is_result r.kind ≡ true → IsAdded last r.statement → HasNodeFor source.script last r
    nodes-at r is added =
        elim (cases_lt r.statement s) [
          | inl below ↦ other r is added (λ e. absurd (omega (arith, e, below, added.from_one)))
          | inr past ↦ elim (cases_lt s r.statement) [
            | inl above ↦ other r is added (λ e. absurd (omega (arith, e, above, may.from_one)))
            | inr not_above ↦ (let same : s ≡ r.statement = omega (arith, past, not_above) in here r is same)
          ]
        ]

-- ---- the plan before is the beginning of the plan

pub statement-front : (source : ScriptWithCut) (p : Planned) (s : ℕ) (st : TypedStmt) → 1 ≤ s → get_or p.results (s - 1) None ≡ None → IsFrontOf p (with_statement source p s st)
statement-front source p s st from_one fresh = record {
  parts = parts-kept source p rs;
  more_nodes = (nodes-kept source p rs).0;
  nodes = (nodes-kept source p rs).1;
  more_recipes = rs;
  recipes = recipes-kept source p rs;
  results = same-at;
  added = λ t added. record {
    from_one = added.from_one;
    within = omega (arith, added.within, length-set (with_recipes source p rs).results (s - 1) (Some l), ap length (results-kept source p rs));
    result = ap is_some (same-at t added) ∙ added.result;
  };
}
  where
    rs : List Recipe
    rs = own_recipes p s st

    l : ResultNodes
    l = result_of p st

    apart : (t : ℕ) → IsAdded p t → t - 1 ≢ s - 1
    apart t added e = cc (fresh, added.result, ap (λ i. get_or p.results i None) e)

    same-at : (t : ℕ) → IsAdded p t → get_or (with_statement source p s st).results (t - 1) None ≡ get_or p.results (t - 1) None
    same-at t added =
        get_or-set_other (with_recipes source p rs).results (s - 1) (t - 1) (Some l) None (apart t added) ∙ ap (λ xs. get_or xs (t - 1) None) (results-kept source p rs)

-- ---- with the view that a statement asks for: none does so far, so that the plan is as it was

pub added-plan : (source : ScriptWithCut) (p : Planned) (s : ℕ) → MayAdd source p s → IsPlan source (with_number source p s)
added-plan = statement-plan

pub added-front : (source : ScriptWithCut) (p : Planned) (s : ℕ) → 1 ≤ s → get_or p.results (s - 1) None ≡ None → IsFrontOf p (with_number source p s)
added-front source p s = statement-front source p s (statement_of source.script s)
