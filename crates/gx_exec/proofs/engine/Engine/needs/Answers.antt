use Rattle.std.proofs.Common.{◌≡◌, ◌∙◌, ap, subst}
use Rattle.gx_types.specs.Needs.{AreNeeded}
use Rattle.gx_model.specs.NamesUsed.{stmts_used}
use Rattle.gx_exec.proofs.NeededStatements.{if_ok-map, needs-used}
use Rattle.gx_exec.proofs.engine.Engine.needs.Goals as goal

pub returns : goal.returns
returns c =
    let w = c.args.self.now.world in
    let same : c.typed.result.now ≡ w.script = c.typed.ensures ∙ ap (λ source. source.script) c.plan.ensures.source ∙ ap (λ e. e.world.script) c.self.view_is in
    if_ok-map (λ needs. AreNeeded c.typed.result.now c.args.s needs.items) (λ needs. needs.items ≡ stmts_used w.script c.args.s) c.needs.result
    (λ needs are. needs-used w c.is_set.ensures.world c.args.s c.requires.from_one c.requires.within needs.items (subst (λ ts. AreNeeded ts c.args.s needs.items) same are))
    c.needs.ensures
