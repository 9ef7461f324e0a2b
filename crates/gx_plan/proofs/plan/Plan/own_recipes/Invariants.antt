use Rattle.std.proofs.Common.{◌≡◌, map, take}
use Rattle.gx_plan.specs.Recipes.{recipe_of}
use Rattle.gx_plan.proofs.plan.Plan.own_recipes.Given as goal

-- the recipes of the kinds so far
abbrev pub invariant-loop-kind : goal.invariant-loop-kind
invariant-loop-kind l = l.recipes.items ≡ map (λ k. recipe_of k l.s) (take l.kind-index l.kind-items)
