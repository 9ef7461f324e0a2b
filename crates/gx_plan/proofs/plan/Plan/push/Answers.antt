use Rattle.std.proofs.Common.{rules}
use Rattle.gx_plan.proofs.PlanSteps.{pushed-as}
use Rattle.gx_plan.proofs.plan.Plan.push.Goals as goal

pub invariant_of-self-in_default : goal.invariant_of-self-in_default
invariant_of-self-in_default c =
    pushed-as c.args.self.now.source _ c.args.self.now.planned _ c.args.r c.requires.may (search rules) (search rules)
