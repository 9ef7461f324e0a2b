use Rattle.std.proofs.Common.{◌≡◌, ◌++◌, length, map}
use Rattle.gx_epart.specs.Numbers.{reversed_local}
use Rattle.gx_epart.proofs.traverse.turned.Given as goal

-- the edges so far and those of the rest are all edges
abbrev pub invariant-loop-rest : goal.invariant-loop-rest
invariant-loop-rest l = l.turned.items ++ map reversed_local l.rest ≡ map reversed_local l.edges

abbrev pub decreases-loop-rest : goal.decreases-loop-rest
decreases-loop-rest l = length l.rest
