use Rattle.std.proofs.Common.{◌∙◌, subst, sym}
use Rattle.gx_plan.specs.FrontLaws.{fronts-joined}
use Rattle.gx_model.specs.NamesUsed.{stmts_used}
use Rattle.gx_exec_work.specs.Works.{net_in}
use Rattle.gx_exec.specs.Courses.{forced_all}
use Rattle.gx_exec.specs.Engines.{point_of}
use Rattle.gx_exec.proofs.AnsweredActions.{IsForcing, IsForcing-none, forcing-last, forcing-later, forcing-may, forcing-more, forcing-stops}
use Rattle.gx_exec.specs.CourseRunLaws.{front-same, passes-here}
use Rattle.std.proofs.lemmas.List.{drop_all}
use Rattle.gx_exec.proofs.HeldStops.{drop_next}
use Rattle.gx_exec.proofs.engine.Engine.force_needs.Goals as goal

pub returns-in_default-clause-stop : goal.returns-in_default-clause-stop
returns-in_default-clause-stop c q front =
    let w = c.args.self.now.world in
    passes-here (net_in w q) (forced_all w c.args.self.now.planned (stmts_used w.script c.args.a)).commands (point_of c.args.cluster.now c.args.events.now)

pub returns-in_default-clause-front : goal.returns-in_default-clause-front
returns-in_default-clause-front c = front-same c.args.self.now.planned

pub loop-s-init : goal.loop-s-init
loop-s-init c = record {
  forcing = subst (IsForcing c.args.a c.args.self.now c.args.cluster.now c.args.events.now c.args.self.now c.args.cluster.now c.args.events.now) (sym (c.deref-s-items.ensures.value ∙ c.in-Ok.ensures))
      (IsForcing-none c.args.a c.args.self.now c.args.cluster.now c.args.events.now c.is_set.ensures.world c.requires.from_one c.requires.within c.requires.steady c.requires.contents);
  events = c.requires.no_events;
}

pub force-requires-clause-may : goal.force-requires-clause-may
force-requires-clause-may c = forcing-may c.args.a c.args.self.now c.args.cluster.now c.args.events.now c.is_set.ensures.world c.requires.from_one c.requires.within c.loop-s.self c.loop-s.cluster c.loop-s.events _ _ _ (drop_next c.deref-s-items.result.now c.loop-s.s-index 0 c.loop-s-test.true) c.loop-s.invariant.forcing

pub returns-in-Err-clause-stop : goal.returns-in-Err-clause-stop
returns-in-Err-clause-stop c = forcing-stops c.args.a c.args.self.now c.args.cluster.now c.args.events.now c.is_set.ensures.world c.requires.from_one c.requires.within c.loop-s.self c.loop-s.cluster c.loop-s.events _ _ _ (drop_next c.deref-s-items.result.now c.loop-s.s-index 0 c.loop-s-test.true) c.loop-s.invariant.forcing
    c.in-Err.stop c.force.new.self.planned c.force.new.cluster c.force.new.events c.in-Err.ensures.stop

pub returns-in-Err-clause-front : goal.returns-in-Err-clause-front
returns-in-Err-clause-front c = fronts-joined c.args.self.now.planned c.loop-s.self.planned c.force.new.self.planned c.loop-s.invariant.forcing.front c.in-Err.ensures.front

pub returns-in-Err-clause-later_kept : goal.returns-in-Err-clause-later_kept
returns-in-Err-clause-later_kept c = forcing-later c.args.a c.args.self.now c.args.cluster.now c.args.events.now c.is_set.ensures.world c.requires.from_one c.requires.within c.loop-s.self c.loop-s.cluster c.loop-s.events _ _ _ (drop_next c.deref-s-items.result.now c.loop-s.s-index 0 c.loop-s-test.true) c.loop-s.invariant.forcing
    c.force.new.self c.in-Err.ensures.others_kept

pub loop-s-preserved : goal.loop-s-preserved
loop-s-preserved c = record {
  forcing = forcing-more c.args.a c.args.self.now c.args.cluster.now c.args.events.now c.is_set.ensures.world c.requires.from_one c.requires.within c.loop-s.self c.loop-s.cluster c.loop-s.events _ _ _ (drop_next c.deref-s-items.result.now c.loop-s.s-index 0 c.loop-s-test.true) c.loop-s.invariant.forcing
      c.force.new.self c.force.new.cluster c.force.new.events c.in_default-force.ensures.world_kept c.in_default-force.ensures.front c.in_default-force.ensures.steady_kept
      c.in_default-force.ensures.contents_kept c.in_default-force.ensures.workers_kept c.in_default-force.ensures.others_kept c.in_default-force.ensures.added
      c.in_default-force.ensures.exact c.in_default-force.ensures.ok;
  events = c.in_default-force.ensures.events_kept ∙ c.loop-s.invariant.events;
}

pub returns-clause-named : goal.returns-clause-named
returns-clause-named c = forcing-last c.args.a c.args.self.now c.args.cluster.now c.args.events.now c.is_set.ensures.world c.requires.from_one c.requires.within c.loop-s.self c.loop-s.cluster c.loop-s.events
    _ (drop_all c.loop-s.s-index c.deref-s-items.result.now c.loop-s-test.false) c.loop-s.invariant.forcing
