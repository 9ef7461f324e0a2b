use Rattle.std.proofs.Common.{rules}
use Rattle.gx_plan.proofs.PlanSteps.{front-as, may-add, recipes-may, settled}
use Rattle.gx_plan.proofs.plan.Plan.extend.Goals as goal

pub push_each-requires-clause-may : goal.push_each-requires-clause-may
push_each-requires-clause-may c =
    recipes-may c.args.self.now.source c.args.self.now.planned c.args.s c.as_slice-2.result.now (may-add _ _ _ c.nodes_are_fed.ensures.plan c.requires.from_one c.requires.within c.requires.named) (search rules)

pub set_result-requires-clause-plan : goal.set_result-requires-clause-plan
set_result-requires-clause-plan c =
    settled c.args.self.now c.push_each.new.self c.args.s c.as_slice-2.result.now c.result-found.result (may-add _ _ _ c.nodes_are_fed.ensures.plan c.requires.from_one c.requires.within c.requires.named) (search rules) (search rules) (search rules)

pub returns-clause-front : goal.returns-clause-front
returns-clause-front c =
    front-as c.args.self.now c.set_result.new.self c.args.s c.requires.from_one c.requires.fresh (search rules)
