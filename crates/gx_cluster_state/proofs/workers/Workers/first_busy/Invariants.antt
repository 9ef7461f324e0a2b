use Rattle.std.specs.Prelude.{is_some, map}
use Rattle.gx_cluster_state.specs.Tasks.{task_block}
use Rattle.gx_cluster_state.specs.PositionLaws.{NonePassBefore}
use Rattle.gx_cluster_state.proofs.workers.Workers.first_busy.Given as goal

-- no worker before this one passes
abbrev pub invariant-loop-w : goal.invariant-loop-w
invariant-loop-w g l = NonePassBefore is_some (map task_block l.self) l.w
