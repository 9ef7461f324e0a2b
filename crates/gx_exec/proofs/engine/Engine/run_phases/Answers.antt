use Rattle.std.proofs.Common.{map, ap, ◌∙◌}
use Rattle.std.proofs.lemmas.List.{drop_all}
use Rattle.gx_exec.proofs.PhaseSteps.{next-phase, phased-may, phased-more, phased-quiet, phased-stops}
use Rattle.gx_exec.proofs.engine.Engine.run_phases.Goals as goal

pub run_phase-requires-clause-may : goal.run_phase-requires-clause-may
run_phase-requires-clause-may c =
    phased-may c.args.self.now c.args.s c.args.cluster.now c.args.events.now c.loop-nodes.cluster c.loop-nodes.events _ _ c.as_slice.result.now _
    (next-phase c.deref-nodes-items.result.now (λ v. v.items) c.loop-nodes.nodes-index c.nodes-item.result c.as_slice.result.now c.loop-nodes-test.true c.nodes-item.is c.as_slice.ensures.value)
    c.loop-nodes.invariant.phased c.is_set.ensures

pub returns-in-Err-clause-stop : goal.returns-in-Err-clause-stop
returns-in-Err-clause-stop c =
    phased-stops c.args.self.now c.args.s c.args.cluster.now c.args.events.now c.loop-nodes.cluster c.loop-nodes.events _ _ c.as_slice.result.now _
    (next-phase c.deref-nodes-items.result.now (λ v. v.items) c.loop-nodes.nodes-index c.nodes-item.result c.as_slice.result.now c.loop-nodes-test.true c.nodes-item.is c.as_slice.ensures.value)
    c.loop-nodes.invariant.phased c.in-Err.stop c.run_phase.new.cluster c.run_phase.new.events c.in-Err.ensures.stop

pub loop-nodes-preserved : goal.loop-nodes-preserved
loop-nodes-preserved c = record {
  phased = phased-more c.args.self.now c.args.s c.args.cluster.now c.args.events.now c.loop-nodes.cluster c.loop-nodes.events _ _ c.as_slice.result.now _
      (next-phase c.deref-nodes-items.result.now (λ v. v.items) c.loop-nodes.nodes-index c.nodes-item.result c.as_slice.result.now c.loop-nodes-test.true c.nodes-item.is c.as_slice.ensures.value)
      c.loop-nodes.invariant.phased c.run_phase.new.cluster c.run_phase.new.events c.is_set.ensures c.in_default-run_phase.ensures.contents_kept c.in_default-run_phase.ensures.workers_kept
      c.in_default-run_phase.ensures.quiet c.in_default-run_phase.ensures.ok;
  events = c.in_default-run_phase.ensures.events_kept ∙ c.loop-nodes.invariant.events;
}

pub returns-clause-quiet : goal.returns-clause-quiet
returns-clause-quiet c =
    phased-quiet c.args.self.now c.args.s c.args.cluster.now c.args.events.now c.loop-nodes.cluster c.loop-nodes.events _ _
    (ap (map (λ v. v.items)) (drop_all c.loop-nodes.nodes-index c.deref-nodes-items.result.now c.loop-nodes-test.false)) c.is_set.ensures c.loop-nodes.invariant.phased
