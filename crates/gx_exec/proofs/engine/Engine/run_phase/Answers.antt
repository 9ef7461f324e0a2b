use Rattle.gx_exec.specs.Engines.{point_of}
use Rattle.gx_exec.proofs.JudgedPhases.{phase-ends, phase-quiet, phase-stops}
use Rattle.gx_exec.proofs.engine.Engine.run_phase.Goals as goal

pub returns-clause-ok : goal.returns-clause-ok
returns-clause-ok c =
    phase-ends c.args.self.now c.is_set.ensures c.args.s c.args.nodes.now c.requires.may c.judge.result (point_of c.args.cluster.now c.args.events.now) (point_of c.compute.new.cluster c.compute.new.events)
    c.judge.ensures c.in_default.ensures.turns c.in_default.ensures.held

pub returns-clause-stop : goal.returns-clause-stop
returns-clause-stop c =
    phase-stops c.args.self.now c.is_set.ensures c.args.s c.args.nodes.now c.requires.may c.judge.result (point_of c.args.cluster.now c.args.events.now) (point_of c.compute.new.cluster c.compute.new.events)
    c.judge.ensures c.in_default.ensures.turns c.in_default.ensures.held

pub returns-clause-quiet : goal.returns-clause-quiet
returns-clause-quiet c = phase-quiet c.args.self.now c.is_set.ensures c.args.s c.args.nodes.now c.requires.may c.judge.result c.judge.ensures
