use Rattle.std.proofs.Common.{◌≡◌, ◌++◌, ◌+◌, length}
use Rattle.gx_epart.specs.Edges.{edges_lent}
use Rattle.gx_epart.specs.Numbers.{destinations_from}
use Rattle.gx_epart.proofs.copies.destinations_of.Given as goal

-- the destinations so far and those of the rest are all destinations
abbrev pub invariant-loop-rest : goal.invariant-loop-rest
invariant-loop-rest l =
    (l.destinations.items ++ destinations_from l.position (edges_lent l.rest) ≡ destinations_from 0 (edges_lent l.edges))
    × (l.position + length l.rest ≡ length l.edges)

abbrev pub decreases-loop-rest : goal.decreases-loop-rest
decreases-loop-rest l = length l.rest
