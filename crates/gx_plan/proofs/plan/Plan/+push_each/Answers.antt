use Rattle.std.proofs.Common.{rules}
use Rattle.gx_plan.proofs.PlanSteps.{back-plan, rest-may, rest-room}
use Rattle.gx_plan.proofs.plan.Plan.+push_each.Goals as goal

pub push_each-requires : goal.push_each-requires
push_each-requires n c = (
  search rules,
  (
    rest-may c.args.self.now c.push.new.self c.in-Some.r.now c.args.recipes.now c.in-Some.rest.now (search rules) (search rules) c.requires.may,
    rest-room c.args.self.now c.push.new.self c.in-Some.r.now c.args.recipes.now c.in-Some.rest.now _ (search rules) (search rules) c.requires.room,
  ),
)

pub truncate-requires-clause-plan : goal.truncate-requires-clause-plan
truncate-requires-clause-plan n c =
    back-plan c.args.self.now c.push_each.new.self c.len-len.result c.in-Some.r.now c.args.recipes.now c.in-Some.rest.now (search rules) (search rules) (search rules) c.requires.may
