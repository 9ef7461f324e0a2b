use Rattle.std.proofs.Common.{◌∙◌, ◌≡◌, true, IsSome, subst, sym, arith}
use Rattle.gx_cluster.specs.States.{shape}
use Rattle.gx_cluster_state.specs.Shapes.{all_held}
use Rattle.gx_plan.specs.FrontLaws.{fronts-joined}
use Rattle.gx_exec.specs.Engines.{action_answer, point_of}
use Rattle.gx_exec_contents.specs.Worlds.{loaded_in}
use Rattle.gx_exec.proofs.ReadActions.{forced-later}
use Rattle.gx_exec.proofs.AnsweredActions.{action-ends, action-held, action-passes, action-stops, needs-stop}
use Rattle.gx_exec.proofs.engine.Engine.run_action.Goals as goal

pub returns-in-Err-clause-stop : goal.returns-in-Err-clause-stop
returns-in-Err-clause-stop c =
    needs-stop c.args.self.now.world c.args.a c.requires.from_one c.args.self.now.planned c.force_needs.new.self.planned c.in-Err.stop
    (point_of c.args.cluster.now c.args.events.now) (point_of c.force_needs.new.cluster c.force_needs.new.events) c.in-Err.ensures.stop

pub returns-in-Err-force-clause-stop : goal.returns-in-Err-force-clause-stop
returns-in-Err-force-clause-stop c =
    action-stops c.args.self.now.world c.args.a c.requires.from_one c.args.self.now.planned c.force_needs.new.self.planned c.force.new.self.planned
    (point_of c.args.cluster.now c.args.events.now) (point_of c.force_needs.new.cluster c.force_needs.new.events) (point_of c.force.new.cluster c.force.new.events) c.in_default.ensures.ok
    c.force_needs.new.self.world c.in_default.ensures.world_kept c.in-Err-force.stop c.in-Err-force.ensures.stop

pub returns-in_default-blocks_of-clause-stop : goal.returns-in_default-blocks_of-clause-stop
returns-in_default-blocks_of-clause-stop c =
    action-passes c.args.self.now.world c.args.a c.requires.from_one c.args.self.now.planned c.force_needs.new.self.planned c.force.new.self.planned
    (point_of c.args.cluster.now c.args.events.now) (point_of c.force_needs.new.cluster c.force_needs.new.events) (point_of c.force.new.cluster c.force.new.events) c.in_default.ensures.ok
    c.force_needs.new.self.world c.in_default.ensures.world_kept c.in_default-force.ensures.ok

pub returns-clause-ok : goal.returns-clause-ok
returns-clause-ok c =
    action-ends c.args.self.now.world c.args.a c.requires.from_one c.args.self.now.planned c.force_needs.new.self.planned c.force.new.self.planned
    (point_of c.args.cluster.now c.args.events.now) (point_of c.force_needs.new.cluster c.force_needs.new.events) (point_of c.force.new.cluster c.force.new.events) c.in_default.ensures.ok
    c.force_needs.new.self.world c.in_default.ensures.world_kept c.in_default-force.ensures.ok

pub returns-clause-front : goal.returns-clause-front
returns-clause-front c =
    fronts-joined c.args.self.now.planned c.force_needs.new.self.planned c.force.new.self.planned c.in_default.ensures.front c.in_default-force.ensures.front

pub returns-clause-held : goal.returns-clause-held
returns-clause-held c =
    let is : IsSome (action_answer (loaded_in c.force_needs.new.self.world) c.args.a) =
    subst (λ w. IsSome (action_answer (loaded_in w) c.args.a)) (sym c.in_default.ensures.world_kept) c.requires.is_action in
    subst (λ bs. all_held (shape c.force.new.cluster) bs ≡ true) (sym c.in-Ok.ensures)
    (action-held c.force_needs.new.self c.force.new.self c.args.a c.in_default.ensures.named.from_one c.in_default.ensures.named.within is
    (c.in_default.ensures.later_kept c.args.a (omega arith) ∙ c.requires.fresh) (point_of c.force_needs.new.cluster c.force_needs.new.events) (point_of c.force.new.cluster c.force.new.events)
    c.in_default-force.ensures.world_kept c.in_default-force.ensures.ok)

pub returns-clause-named : goal.returns-clause-named
returns-clause-named c =
    forced-later c.force_needs.new.self c.force.new.self c.args.a c.in_default-force.ensures.world_kept c.in_default-force.ensures.front c.in_default.ensures.named
