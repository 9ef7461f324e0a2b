use Rattle.std.specs.Prelude.{map}
use Rattle.gx_cluster_state.specs.Shapes.{runs_block}
use Rattle.gx_cluster_state.specs.Tasks.{task_block}
use Rattle.gx_cluster_state.specs.PositionLaws.{NonePassBefore}
use Rattle.gx_cluster_state.proofs.workers.Workers.runs.Given as goal

-- no worker before this one passes
abbrev pub invariant-loop-w : goal.invariant-loop-w
invariant-loop-w g l = NonePassBefore (runs_block l.b) (map task_block l.self) l.w
