use Rattle.gx_plan.specs.OneStatementLaws.{added-front, added-plan}
use Rattle.gx_plan.specs.FrontLaws.{front-inputs, fronts-joined}
use Rattle.gx_plan.proofs.laws.plans_grow.Goals as goal

pub returns-clause-plan : goal.returns-clause-plan
returns-clause-plan c = added-plan

pub returns-clause-front : goal.returns-clause-front
returns-clause-front c = added-front

pub returns-clause-joined : goal.returns-clause-joined
returns-clause-joined c = fronts-joined

pub returns-clause-inputs_kept : goal.returns-clause-inputs_kept
returns-clause-inputs_kept c = front-inputs
