-- A plan with one more node.
use Rattle.std.proofs.Common.{◌≡◌, ℕ, ◌<◌, ◌+◌, true, refl, All, List, [], ◌∷◌, ◌++◌, length, slice_get, option_map, unwrap_or, sym, ap, subst, ◌∙◌, inl, inr, arith}
use Rattle.std.proofs.lemmas.Bool.{cases_lt}
use Rattle.std.proofs.lemmas.List.{get_or_append_left, length-append}
use Rattle.std.proofs.lemmas.List.Elements.{All-cons, All-nil}
use Rattle.std.proofs.Math.Seq.{get_or-append_seam}
use Rattle.gx_lineage.specs.Nodes.{Node}
use Rattle.gx_lineage.specs.declared.input.Input.{Input}
use Rattle.gx_plan.specs.PlanInvariant.{AreInputsFor, HasNodeFor, IsFed, IsNodeFor, IsPlan, MayPush}
use Rattle.gx_plan.specs.PlanInvariant.AreInputsFor.{end, from, skipped}
use Rattle.gx_plan.specs.Plans.{IsAdded, Planned, inputs_of, node_kind_by, node_of, recipe_at, with_recipe}
use Rattle.gx_plan.specs.Recipes.{is_result}
use Rattle.gx_plan.specs.StmtNodes.{ScriptWithCut, feeds}
use Rattle.gx_plan.specs.declared.feed.Feed.{Feed}
use Rattle.gx_plan.specs.declared.recipe.Recipe.{Recipe}
use Rattle.gx_plan.specs.NodeLaws.{inputs-found, inputs-more, node-more, node_of-same, slice_get-end, slice_get-front}

-- the inputs of node n, of these nodes
inputs_at : List Node → ℕ → List Input
inputs_at nodes n = unwrap_or (option_map (λ m. m.inputs) (slice_get nodes n)) []

fed-more : (source : ScriptWithCut) (xs : List Recipe) (r o : Recipe) (is : List Input) → IsFed source xs o is → IsFed source (xs ++ r ∷ []) o is
fed-more source xs r o is h = record { own = h.own; read = inputs-more source.script xs (r ∷ []) (feeds source o) is h.read }

fed-front : (source : ScriptWithCut) (xs : List Recipe) (r : Recipe) (nodes : List Node) (m : Node) (n : ℕ) → n < length xs → length xs ≡ length nodes
    → IsFed source xs (recipe_at xs n) (inputs_at nodes n) → IsFed source (xs ++ r ∷ []) (recipe_at (xs ++ r ∷ []) n) (inputs_at (nodes ++ m ∷ []) n)
unfolding inputs_at
fed-front source xs r nodes m n below long h =
    let old : IsFed source (xs ++ r ∷ []) (recipe_at xs n) (inputs_at nodes n) = fed-more source xs r (recipe_at xs n) (inputs_at nodes n) h in
    let same_recipe : recipe_at (xs ++ r ∷ []) n ≡ recipe_at xs n = get_or_append_left xs (r ∷ []) _ n below in
    let same_inputs : inputs_at (nodes ++ m ∷ []) n ≡ inputs_at nodes n = ap (λ o. unwrap_or (option_map (λ (x : Node). x.inputs) o) []) (slice_get-front nodes (m ∷ []) n (omega (arith, below, long))) in
    subst (λ o. IsFed source (xs ++ r ∷ []) o (inputs_at (nodes ++ m ∷ []) n)) (sym same_recipe)
    (subst (λ is. IsFed source (xs ++ r ∷ []) (recipe_at xs n) is) (sym same_inputs) old)

fed-end : (source : ScriptWithCut) (xs : List Recipe) (r : Recipe) (nodes : List Node) (m : Node) → length xs ≡ length nodes
    → IsFed source xs r m.inputs → IsFed source (xs ++ r ∷ []) (recipe_at (xs ++ r ∷ []) (length xs)) (inputs_at (nodes ++ m ∷ []) (length xs))
unfolding inputs_at
fed-end source xs r nodes m long h =
    let same_recipe : recipe_at (xs ++ r ∷ []) (length xs) ≡ r = get_or-append_seam xs r [] _ in
    let same_inputs : inputs_at (nodes ++ m ∷ []) (length xs) ≡ m.inputs = ap (inputs_at (nodes ++ m ∷ [])) long ∙ ap (λ o. unwrap_or (option_map (λ (x : Node). x.inputs) o) []) (slice_get-end nodes m) in
    subst (λ o. IsFed source (xs ++ r ∷ []) o (inputs_at (nodes ++ m ∷ []) (length xs))) (sym same_recipe)
    (subst (λ is. IsFed source (xs ++ r ∷ []) r is) (sym same_inputs) (fed-more source xs r r m.inputs h))

-- results have the nodes that they had
pushed-node : (source : ScriptWithCut) (p : Planned) (r o : Recipe) → is_result o.kind ≡ true → IsAdded (with_recipe source p r) o.statement → MayPush source p r → HasNodeFor source.script (with_recipe source p r) o
pushed-node source p r o is added may =
    let before : IsAdded p o.statement = record { from_one = added.from_one; within = added.within; result = added.result } in
    subst (IsNodeFor source.script (p.recipes ++ r ∷ []) o) (sym (node_of-same p (with_recipe source p r) o.kind o is refl))
    (node-more source.script p.recipes (r ∷ []) o (node_of p o) (may.plan.nodes o is before))

pub pushed : (source : ScriptWithCut) (p : Planned) (r : Recipe) → MayPush source p r → IsPlan source (with_recipe source p r)
unfolding inputs_at
pushed source p r may = record {
  recipes = omega (arith, length-append p.recipes (r ∷ []), length-append p.lineage.nodes (node ∷ []), may.plan.recipes);
  results = may.plan.results;
  nodes = λ o is added. pushed-node source p r o is added may;
  fed = λ n below. fed-at n below;
}
  where
    node : Node
    node = record { kind = node_kind_by source r; inputs = inputs_of p (feeds source r) }

    fed-at : (n : ℕ) → n < length (p.recipes ++ r ∷ []) → IsFed source (p.recipes ++ r ∷ []) (recipe_at (p.recipes ++ r ∷ []) n) (inputs_at (p.lineage.nodes ++ node ∷ []) n)
    fed-at n below =
        elim (cases_lt n (length p.recipes)) [
          | inl old ↦ fed-front source p.recipes r p.lineage.nodes node n old may.plan.recipes (may.plan.fed n old)
          | inr past ↦ (let long : length (p.recipes ++ r ∷ []) ≡ length p.recipes + 1 = length-append p.recipes (r ∷ []) in
              let last : length p.recipes ≡ n = omega (arith, below, past, long) in
              subst (λ (i : ℕ). IsFed source (p.recipes ++ r ∷ []) (recipe_at (p.recipes ++ r ∷ []) i) (inputs_at (p.lineage.nodes ++ node ∷ []) i)) last
              (fed-end source p.recipes r p.lineage.nodes node may.plan.recipes (record { own = may.own; read = inputs-found source.script p (feeds source r) may.nodes })))
        ]

-- ---- its inputs are earlier nodes

inputs-inside : (source : ScriptWithCut) (xs : List Recipe) (fs : List Feed) (is : List Input) → AreInputsFor source.script xs fs is → All (λ x. x.node.0 < length xs) is
inputs-inside source xs _ _ end = All-nil (λ x. x.node.0 < length xs)
inputs-inside source xs _ _ (from {f = f} {i = i} {fs = fs} {is = is} stands same rest) = All-cons (λ x. x.node.0 < length xs) i is stands.inside (inputs-inside source xs fs is rest)
inputs-inside source xs _ _ (skipped {fs = fs} {is = is} none rest) = inputs-inside source xs fs is rest

pub inputs-earlier : (source : ScriptWithCut) (p : Planned) (r : Recipe) (is : List Input) → MayPush source p r → is ≡ inputs_of p (feeds source r) → All (λ x. x.node.0 < length p.lineage.nodes) is
inputs-earlier source p r is may e =
    subst (λ (n : ℕ). All (λ (x : Input). x.node.0 < n) is) may.plan.recipes
    (subst (All (λ (x : Input). x.node.0 < length p.recipes)) (sym e) (inputs-inside source p.recipes (feeds source r) (inputs_of p (feeds source r)) (inputs-found source.script p (feeds source r) may.nodes)))
