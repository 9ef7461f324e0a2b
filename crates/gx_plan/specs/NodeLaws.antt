-- Nodes that serve in a plan also serve when more nodes come after them.
use Rattle.std.proofs.Common.{◌≡◌, ℕ, suc, zero, ◌<◌, ◌-◌, true, List, [], ◌∷◌, ◌++◌, length, get_or, Option, Some, None, slice_get, option_map, unwrap_or, sym, ap, subst, ◌∙◌, refl, arith}
use Rattle.std.specs.List.{AllByRecursion}
use Rattle.std.specs.Option.{option_to_list}
use Rattle.std.proofs.lemmas.List.{get_or_append_left, length-append}
use Rattle.gx_lineage.specs.declared.input.Input.{Input}
use Rattle.gx_lineage.specs.declared.node_id.NodeId.{NodeId}
use Rattle.gx_types_stmts.specs.declared.checked_stmt.CheckedStmt.{CheckedStmt}
use Rattle.gx_plan.specs.PlanInvariant.{AreInputsFor, HasNodeFor, IsNodeFor, IsUnserved, Owns, Serves, Stands}
use Rattle.gx_plan.specs.PlanInvariant.AreInputsFor.{end, from, skipped}
use Rattle.gx_plan.specs.Plans.{Planned, inputs_of, no_nodes, node_in, node_of, node_of_kind, recipe_at}
use Rattle.gx_plan.specs.Recipes.{is_result}
use Rattle.gx_plan.specs.declared.feed.Feed.{Feed}
use Rattle.gx_plan.specs.declared.kind.Kind.{Kind}
use Rattle.gx_plan.specs.declared.kind.Kind.TheVariants.{Vertices, Edges}
use Rattle.gx_plan.specs.declared.recipe.Recipe.{Recipe}
use Rattle.gx_plan.specs.declared.result_nodes.ResultNodes.{ResultNodes}

pub slice_get-front : {A : Type 0} (xs ys : List A) (n : ℕ) → n < length xs → slice_get (xs ++ ys) n ≡ slice_get xs n
slice_get-front [] ys n h = absurd (omega (arith, h))
slice_get-front (x ∷ xs) ys zero h = refl
slice_get-front (x ∷ xs) ys (suc n) h = slice_get-front xs ys n (omega (arith, h))

pub slice_get-end : {A : Type 0} (xs : List A) (y : A) → slice_get (xs ++ y ∷ []) (length xs) ≡ Some y
slice_get-end [] y = refl
slice_get-end (x ∷ xs) y = slice_get-end xs y

pub stands-more : (script : List CheckedStmt) (xs more : List Recipe) (r : Recipe) (n : NodeId) → Stands script xs r n → Stands script (xs ++ more) r n
stands-more script xs more r n h =
    let same : recipe_at (xs ++ more) n.0 ≡ recipe_at xs n.0 = get_or_append_left xs more _ n.0 h.inside in
    record {
      inside = rw length-append (omega (arith, h.inside));
      kind = ap (λ o. o.kind) same ∙ h.kind;
      serves = subst (Serves script r.kind r) (sym same) h.serves;
    }

pub node-more : (script : List CheckedStmt) (xs more : List Recipe) (r : Recipe) (o : Option NodeId) → IsNodeFor script xs r o → IsNodeFor script (xs ++ more) r o
node-more script xs more r (Some n) h = stands-more script xs more r n h
node-more script xs more r None h = h

pub inputs-more : (script : List CheckedStmt) (xs more : List Recipe) (fs : List Feed) (is : List Input) → AreInputsFor script xs fs is → AreInputsFor script (xs ++ more) fs is
inputs-more script xs more _ _ end = end
inputs-more script xs more _ _ (from {f = f} {i = i} {fs = fs} {is = is} stands same rest) =
    from (stands-more script xs more f.recipe i.node stands) same (inputs-more script xs more fs is rest)
inputs-more script xs more _ _ (skipped {fs = fs} {is = is} none rest) = skipped none (inputs-more script xs more fs is rest)

-- ---- results

-- the node of a result, by what is kept of the result
pub node_of-same : (p q : Planned) (k : Kind) (r : Recipe) → is_result k ≡ true → get_or q.results (r.statement - 1) None ≡ get_or p.results (r.statement - 1) None → node_of_kind k q r ≡ node_of_kind k p r
node_of-same p q Vertices r is same = ap (λ o. node_in Vertices (unwrap_or o no_nodes)) same
node_of-same p q Edges r is same = ap (λ o. node_in Edges (unwrap_or o no_nodes)) same

-- and by the nodes of the result
pub node_of-result : (p : Planned) (k : Kind) (r : Recipe) (o : Option ResultNodes) → is_result k ≡ true → get_or p.results (r.statement - 1) None ≡ o → node_of_kind k p r ≡ node_in k (unwrap_or o no_nodes)
node_of-result p Vertices r o is at = ap (λ x. node_in Vertices (unwrap_or x no_nodes)) at
node_of-result p Edges r o is at = ap (λ x. node_in Edges (unwrap_or x no_nodes)) at

-- a node that serves for a recipe of this kind and statement serves for each
pub serves-each : (script : List CheckedStmt) (k : Kind) (o r made : Recipe) → o.statement ≡ r.statement → Serves script k o made → Serves script k r made
serves-each script Vertices o r made same h = subst (λ s. Owns script Vertices s made.statement) same h
serves-each script Edges o r made same h = subst (λ s. Owns script Edges s made.statement) same h

unserved-each : (script : List CheckedStmt) (k : Kind) (o r : Recipe) → o.statement ≡ r.statement → IsUnserved script k o → IsUnserved script k r
unserved-each script Vertices o r same h = λ owner owns. h owner (subst (λ s. Owns script Vertices s owner) (sym same) owns)
unserved-each script Edges o r same h = λ owner owns. h owner (subst (λ s. Owns script Edges s owner) (sym same) owns)

pub node-each : (script : List CheckedStmt) (recipes : List Recipe) (o r : Recipe) (n : Option NodeId) → o.kind ≡ r.kind → o.statement ≡ r.statement → IsNodeFor script recipes o n → IsNodeFor script recipes r n
node-each script recipes o r (Some n) kind same h = record {
  inside = h.inside;
  kind = h.kind ∙ kind;
  serves = serves-each script r.kind o r (recipe_at recipes n.0) same (subst (λ k. Serves script k o (recipe_at recipes n.0)) kind h.serves);
}
node-each script recipes o r None kind same h = unserved-each script r.kind o r same (subst (λ k. IsUnserved script k o) kind h)

-- ---- the inputs of a new node

input-found : (script : List CheckedStmt) (xs : List Recipe) (f : Feed) (fs : List Feed) (is : List Input) (o : Option NodeId)
    → IsNodeFor script xs f.recipe o → AreInputsFor script xs fs is
    → AreInputsFor script xs (f ∷ fs) (option_to_list (option_map (λ n. let i : Input = record { node = n; pattern = f.pattern } in i) o) ++ is)
input-found script xs f fs is (Some n) stands rest = from stands refl rest
input-found script xs f fs is None none rest = skipped none rest

pub inputs-found : (script : List CheckedStmt) (p : Planned) (fs : List Feed) → AllByRecursion (λ f. HasNodeFor script p f.recipe) fs → AreInputsFor script p.recipes fs (inputs_of p fs)
inputs-found script p [] h = end
inputs-found script p (f ∷ fs) h = input-found script p.recipes f fs (inputs_of p fs) (node_of p f.recipe) h.0 (inputs-found script p fs h.1)
