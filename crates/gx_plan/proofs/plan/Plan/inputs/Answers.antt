use Rattle.std.proofs.Common.{rules}
use Rattle.gx_plan.specs.OneNodeLaws.{inputs-earlier}
use Rattle.gx_plan.proofs.plan.Plan.inputs.Goals as goal

pub returns-clause-earlier : goal.returns-clause-earlier
returns-clause-earlier c =
    inputs-earlier c.args.self.now.source c.args.self.now.planned c.args.r c.loop-feed.inputs.items c.requires.may (search rules)
