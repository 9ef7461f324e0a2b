use Rattle.std.proofs.Common.{◌≡◌, ◌++◌, length}
use Rattle.gx_epart.specs.Edges.{edges_kept}
use Rattle.gx_epart.proofs.traverse.keep.Given as goal

-- the edges kept so far and those of the rest are those of all edges
abbrev pub invariant-loop-rest : goal.invariant-loop-rest
invariant-loop-rest l = l.kept.items ++ edges_kept l.rest l.bools ≡ edges_kept l.edges l.keeps

abbrev pub decreases-loop-rest : goal.decreases-loop-rest
decreases-loop-rest l = length l.rest
