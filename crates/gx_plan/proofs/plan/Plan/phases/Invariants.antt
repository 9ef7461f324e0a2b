use Rattle.std.proofs.Common.{◌≡◌, [], ◌∷◌, map, take}
use Rattle.std.specs.List.{flat_map}
use Rattle.gx_plan.specs.Plans.{nodes_of, phase_at}
use Rattle.gx_plan.specs.Recipes.{recipe_of}
use Rattle.gx_plan.proofs.plan.Plan.phases.Given as goal

-- the phases of the nodes of the kinds so far
abbrev pub invariant-loop-kind : goal.invariant-loop-kind
invariant-loop-kind l =
    map (λ v. v.items) l.phases.items ≡ flat_map (λ k. phase_at (nodes_of l.self.planned (recipe_of k l.s ∷ []))) (take l.kind-index l.kind-items)
