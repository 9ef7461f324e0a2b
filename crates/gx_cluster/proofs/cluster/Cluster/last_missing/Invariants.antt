use Rattle.std.proofs.Common.{take}
use Rattle.gx_cluster.specs.States.{shape}
use Rattle.gx_cluster.proofs.MissingBlocks.{IsLastMissing}
use Rattle.gx_cluster.proofs.cluster.Cluster.last_missing.Given as goal

-- the last so far that is not held
abbrev pub invariant-loop-b : goal.invariant-loop-b
invariant-loop-b g l = IsLastMissing (shape l.self) (take l.b-index l.blocks) l.missing
