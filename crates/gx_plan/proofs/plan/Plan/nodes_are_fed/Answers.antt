use Rattle.std.proofs.Common.{◌≡◌, rules, subst}
use Rattle.gx_plan.specs.PlanLaws.{MoveByEnds}
use Rattle.gx_plan.proofs.NamedSorts.{by_ends-all, named-has_sorts}
use Rattle.gx_types.specs.SoundStmts.{AreRun}
use Rattle.gx_types.specs.StmtSorts.{HasNamedSorts}
use Rattle.gx_plan.proofs.plan.Plan.nodes_are_fed.Goals as goal

pub returns-clause-sorts : goal.returns-clause-sorts
returns-clause-sorts c =
    let same : c.deref.result.now ≡ c.args.self.now.source.script = search rules in
    named-has_sorts c.args.self.now.source (subst HasNamedSorts same c.statements_are_sound.ensures.sorts) (subst AreRun same c.statements_are_sound.ensures.run)

pub returns-clause-by_ends : goal.returns-clause-by_ends
returns-clause-by_ends c =
    let same : c.deref.result.now ≡ c.args.self.now.source.script = search rules in
    subst MoveByEnds same (by_ends-all c.deref.result.now c.statements_are_sound.ensures.cuts)
