use Rattle.std.proofs.Common.{All, ap, subst, ◌∙◌}
use Rattle.gx_exec_work.proofs.RunWorlds.{world-runs}
use Rattle.gx_plan.specs.PlanLaws.{HasSorts, MoveByEnds}
use Rattle.gx_types.specs.Needs.{NamesAreUsed, UseEarlier}
use Rattle.gx_types.specs.SoundStmts.{AreRun}
use Rattle.gx_exec_work.proofs.graph_work.may_run.Goals as goal

pub returns : goal.returns
returns c =
    let script = ap (λ source. source.script) c.requires.source in
    let typed = c.typed.ensures ∙ script in
    world-runs c.args.loads.now c.requires.some_parts
    (subst UseEarlier typed c.statements_are_sound.ensures.earlier)
    (subst (All NamesAreUsed) typed c.statements_are_sound.ensures.named)
    (subst HasSorts c.requires.source c.nodes_are_fed.ensures.sorts)
    (subst AreRun script c.nodes_are_fed.ensures.run)
    (subst MoveByEnds script c.nodes_are_fed.ensures.by_ends)
