use Rattle.std.proofs.Common.{◌≡◌, ◌++◌, length}
use Rattle.gx_epart.specs.Edges.{edges_lent}
use Rattle.gx_epart.proofs.copies.lent.Given as goal

-- the edges so far and the rest are all edges
abbrev pub invariant-loop-rest : goal.invariant-loop-rest
invariant-loop-rest l = edges_lent l.lent.items ++ l.rest ≡ l.edges

abbrev pub decreases-loop-rest : goal.decreases-loop-rest
decreases-loop-rest l = length l.rest
