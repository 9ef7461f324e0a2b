-- Beginnings of plans.
use Rattle.std.proofs.Common.{◌≡◌, ℕ, ◌++◌, true, List, [], Option, ap, ap₂, ◌∙◌, append_assoc, option_map, slice_get, unwrap_or}
use Rattle.std.specs.List.{flat_map}
use Rattle.gx_lineage.specs.Lineage.{KeepsInputs, blocks_of_input}
use Rattle.gx_lineage.specs.Nodes.{Node}
use Rattle.gx_plan.specs.PlanInvariant.{IsFrontOf}
use Rattle.gx_plan.specs.Plans.{IsAdded, Planned, node_of}
use Rattle.gx_plan.specs.Recipes.{is_result}
use Rattle.gx_plan.specs.declared.recipe.Recipe.{Recipe}
use Rattle.gx_plan.specs.NodeLaws.{node_of-same, slice_get-front}

pub fronts-joined : (p q o : Planned) → IsFrontOf p q → IsFrontOf q o → IsFrontOf p o
fronts-joined p q o a b = record {
  parts = b.parts ∙ a.parts;
  more_nodes = a.more_nodes ++ b.more_nodes;
  nodes = b.nodes ∙ ap (λ ns. ns ++ b.more_nodes) a.nodes ∙ append_assoc p.lineage.nodes a.more_nodes b.more_nodes;
  more_recipes = a.more_recipes ++ b.more_recipes;
  recipes = b.recipes ∙ ap (λ rs. rs ++ b.more_recipes) a.recipes ∙ append_assoc p.recipes a.more_recipes b.more_recipes;
  results = λ s added. b.results s (a.added s added) ∙ a.results s added;
  added = λ s added. b.added s (a.added s added);
}

pub front-inputs : (p q : Planned) → IsFrontOf p q → KeepsInputs p.lineage q.lineage
front-inputs p q front b is =
    let same : slice_get q.lineage.nodes b.node.0 ≡ slice_get p.lineage.nodes b.node.0 =
    ap (λ (ns : List Node). slice_get ns b.node.0) front.nodes ∙ slice_get-front p.lineage.nodes front.more_nodes b.node.0 is.node in
    ap₂ (λ (parts : ℕ) (o : Option Node). flat_map (blocks_of_input parts b.part) (unwrap_or (option_map (λ (m : Node). m.inputs) o) [])) front.parts same

-- the nodes of its results are those of the larger plan
pub front-node_of : (p q : Planned) → IsFrontOf p q → (r : Recipe) → is_result r.kind ≡ true → IsAdded p r.statement → node_of q r ≡ node_of p r
front-node_of p q front r is added = node_of-same p q r.kind r is (front.results r.statement added)
