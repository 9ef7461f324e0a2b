use Rattle.std.proofs.Common.{List, ℕ}
use Rattle.gx_rows.specs.declared.vid.Vid.{Vid}
use Rattle.gx_lineage.specs.declared.block_id.BlockId.{BlockId}
use Rattle.gx_cluster_state.specs.Nets.{net_of}
use Rattle.gx_cluster.specs.States.{shape}
use Rattle.gx_cluster.specs.Sweeps.{IsSweep, block_height}
use Rattle.gx_cluster.proofs.cluster.Cluster.open_blocks.Given as goal

abbrev pub invariant-sweep : goal.invariant-sweep
invariant-sweep g l = (f : BlockId → List (ℕ × Vid)) → IsSweep (net_of l.dag f) l.targets (shape l.self) l.front.keys l.found.items

-- each block that comes into the front has a smaller number than the one that left it
abbrev pub decreases-sweep : goal.decreases-sweep
decreases-sweep g l = block_height l.dag.parts l.front.keys
