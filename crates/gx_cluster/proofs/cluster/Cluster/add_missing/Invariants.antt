use Rattle.std.proofs.Common.{take}
use Rattle.gx_cluster.specs.States.{shape}
use Rattle.gx_cluster.specs.Sweeps.{AddsMissing}
use Rattle.gx_cluster.proofs.cluster.Cluster.add_missing.Given as goal

-- those of the blocks so far that are not held were added
abbrev pub invariant-loop-b : goal.invariant-loop-b
invariant-loop-b g l = AddsMissing (shape l.self) (take l.b-index l.blocks) l.fn.front.keys l.front.keys
