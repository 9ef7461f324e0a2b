-- The blocks of tasks.
use Rattle.std.specs.Prelude.{Option, option_map}
use Rattle.gx_lineage.specs.declared.block_id.BlockId.{BlockId}
use Rattle.gx_cluster_state.specs.declared.running.Running.{Running}

-- the block that a worker runs
abbrev pub task_block : {A : Type 0} → Option (Running A) → Option BlockId
task_block task = option_map (λ r. r.block) task
