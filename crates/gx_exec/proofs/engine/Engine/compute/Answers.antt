use Rattle.std.proofs.Common.{◌≡◌, ◌∙◌, ◌++◌, ap, subst, sym}
use Rattle.std.specs.Prelude.{All}
use Rattle.gx_lineage.specs.Lineage.{IsBlock}
use Rattle.gx_exec.specs.Courses.{targets_of}
use Rattle.gx_exec.specs.Engines.{HoldsWorkOf}
use Rattle.gx_exec.proofs.HeldStops.{targets-inside}
use Rattle.gx_exec.proofs.LargerPlans.{has-demanded, none-demanded}
use Rattle.gx_exec.proofs.engine.Engine.compute.Goals as goal

pub returns-in_err-push_blocks-clause-turns : goal.returns-in_err-push_blocks-clause-turns
returns-in_err-push_blocks-clause-turns c =
    none-demanded c.args.self.now c.is_set.ensures (targets_of c.args.self.now.world c.args.nodes.now)
    (targets-inside c.args.self.now c.is_set.ensures c.args.nodes.now c.requires.may) c.args.cluster.now c.args.events.now

pub demand-requires-clause-contents : goal.demand-requires-clause-contents
demand-requires-clause-contents c = subst (λ e. HoldsWorkOf e c.args.cluster.now) (sym c.self.view_is) c.requires.contents

pub demand-requires-clause-blocks : goal.demand-requires-clause-blocks
demand-requires-clause-blocks c =
    let ts = targets_of c.args.self.now.world c.args.nodes.now in
    let same : c.as_slice.result.now ≡ ts = c.as_slice.ensures.value ∙ c.in_ok-push_blocks.ensures ∙ ap (λ bs. bs ++ ts) c.new-targets.ensures.items in
    subst (λ bs. All (IsBlock c.self.inside.work.planned.lineage) bs) (sym same)
    (subst (λ e. All (IsBlock e.planned.lineage) ts) (sym c.self.view_is) (targets-inside c.args.self.now c.is_set.ensures c.args.nodes.now c.requires.may))

pub returns-clause-turns : goal.returns-clause-turns
returns-clause-turns c =
    let ts = targets_of c.args.self.now.world c.args.nodes.now in
    let same : c.as_slice.result.now ≡ ts = c.as_slice.ensures.value ∙ c.in_ok-push_blocks.ensures ∙ ap (λ bs. bs ++ ts) c.new-targets.ensures.items in
    has-demanded c.args.self.now c.self.inside.work c.is_set.ensures ts c.as_slice.result.now
    (targets-inside c.args.self.now c.is_set.ensures c.args.nodes.now c.requires.may) c.self.view_is same
    c.args.cluster.now c.demand.new.self c.demand.new.events c.args.events.now
    c.requires.contents c.demand.ensures.turns

pub returns-clause-contents_kept : goal.returns-clause-contents_kept
returns-clause-contents_kept c = subst (λ e. HoldsWorkOf e c.demand.new.self) c.self.view_is c.demand.ensures.contents_kept
