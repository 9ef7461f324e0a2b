use Rattle.std.proofs.Common.{◌∙◌, subst, sym}
use Rattle.gx_plan.specs.PlanInvariant.{IsFrontOf}
use Rattle.gx_exec.specs.Courses.{forced}
use Rattle.gx_exec_work.specs.Works.{net_in}
use Rattle.gx_exec.specs.Engines.{point_of}
use Rattle.gx_exec.specs.CourseFaultLaws.{forced-fault}
use Rattle.gx_exec.specs.CourseRunLaws.{front-same, passes-here}
use Rattle.gx_exec.proofs.ForcedStatements.{after-contents, after-front, after-next, after-steady, forced-ends, forced-stops}
use Rattle.gx_exec.proofs.JudgedPhases.{exact-by}
use Rattle.gx_exec.proofs.engine.Engine.force.Goals as goal

pub returns-then-is_added-clause-front : goal.returns-then-is_added-clause-front
returns-then-is_added-clause-front c = front-same c.args.self.now.planned

pub returns-in-Err-clause-front : goal.returns-in-Err-clause-front
returns-in-Err-clause-front c = subst (λ e. IsFrontOf c.args.self.now.planned e.planned) (sym c.in-Err.ensures.unchanged) (front-same c.args.self.now.planned)

pub run_phases-requires-clause-next : goal.run_phases-requires-clause-next
run_phases-requires-clause-next c =
    after-next c.args.self.now c.extend.new.self c.args.s (sym c.is_added.ensures ∙ c.if-is_added.false) c.in_default.ensures.added
    c.is_set.ensures c.requires.may c.requires.steady

pub run_phases-requires-clause-contents : goal.run_phases-requires-clause-contents
run_phases-requires-clause-contents c =
    after-contents c.args.self.now c.extend.new.self c.args.s (sym c.is_added.ensures ∙ c.if-is_added.false) c.in_default.ensures.added
    c.is_set.ensures c.requires.may c.requires.steady c.args.cluster.now c.requires.contents

pub returns-clause-exact : goal.returns-clause-exact
returns-clause-exact c =
    exact-by c.run_phases.result c.args.self.now.world (forced c.args.self.now.world c.args.self.now.planned c.args.s) _ c.extend.new.self.planned
    (point_of c.args.cluster.now c.args.events.now) (point_of c.run_phases.new.cluster c.run_phases.new.events)
    (forced-fault c.args.self.now c.is_set.ensures c.args.s c.requires.may c.requires.steady)
    (forced-ends c.args.self.now c.extend.new.self c.args.s (sym c.is_added.ensures ∙ c.if-is_added.false) c.in_default.ensures.added
    c.run_phases.result (point_of c.args.cluster.now c.args.events.now) (point_of c.run_phases.new.cluster c.run_phases.new.events) c.run_phases.ensures.ok)
    (forced-stops c.args.self.now c.extend.new.self c.args.s (sym c.is_added.ensures ∙ c.if-is_added.false) c.in_default.ensures.added
    c.run_phases.result (point_of c.args.cluster.now c.args.events.now) (point_of c.run_phases.new.cluster c.run_phases.new.events) c.run_phases.ensures.stop)

pub returns-clause-front : goal.returns-clause-front
returns-clause-front c =
    after-front c.args.self.now c.extend.new.self c.args.s (sym c.is_added.ensures ∙ c.if-is_added.false) c.in_default.ensures.added
    c.is_set.ensures c.requires.may c.requires.steady

pub returns-clause-steady_kept : goal.returns-clause-steady_kept
returns-clause-steady_kept c =
    after-steady c.args.self.now c.extend.new.self c.args.s (sym c.is_added.ensures ∙ c.if-is_added.false) c.in_default.ensures.added
    c.is_set.ensures c.requires.may c.requires.steady c.run_phases.result c.run_phases.ensures.quiet
    (exact-by c.run_phases.result c.args.self.now.world (forced c.args.self.now.world c.args.self.now.planned c.args.s) _ c.extend.new.self.planned
    (point_of c.args.cluster.now c.args.events.now) (point_of c.run_phases.new.cluster c.run_phases.new.events)
    (forced-fault c.args.self.now c.is_set.ensures c.args.s c.requires.may c.requires.steady)
    (forced-ends c.args.self.now c.extend.new.self c.args.s (sym c.is_added.ensures ∙ c.if-is_added.false) c.in_default.ensures.added
    c.run_phases.result (point_of c.args.cluster.now c.args.events.now) (point_of c.run_phases.new.cluster c.run_phases.new.events) c.run_phases.ensures.ok)
    (forced-stops c.args.self.now c.extend.new.self c.args.s (sym c.is_added.ensures ∙ c.if-is_added.false) c.in_default.ensures.added
    c.run_phases.result (point_of c.args.cluster.now c.args.events.now) (point_of c.run_phases.new.cluster c.run_phases.new.events) c.run_phases.ensures.stop))

pub returns-in-Err-clause-stop : goal.returns-in-Err-clause-stop
returns-in-Err-clause-stop c q front =
    passes-here (net_in c.args.self.now.world q) (forced c.args.self.now.world c.args.self.now.planned c.args.s).commands (point_of c.args.cluster.now c.args.events.now)
