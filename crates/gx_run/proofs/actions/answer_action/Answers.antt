use Rattle.std.proofs.Common.{None}
use Rattle.gx_exec.specs.Courses.{answered}
use Rattle.gx_exec.specs.Engines.{point_of}
use Rattle.gx_run.proofs.ActionRuns.{ends_passes}
use Rattle.gx_run.proofs.actions.answer_action.Goals as goal

-- the action was answered, and memory for its answer ran out
pub returns-clause-stop : goal.returns-clause-stop
returns-clause-stop c =
    let e = c.args.engine.now in
    ends_passes e.world (answered e.world e.planned c.args.s) None c.answer.new.self.planned (point_of c.args.cluster.now c.args.events.now) (point_of c.answer.new.cluster c.answer.new.events)
    c.in-Ok.ensures.ok
