use Rattle.std.proofs.Common.{◌≡◌, ◌++◌, length}
use Rattle.gx_epart.specs.Edges.{edges_lent}
use Rattle.gx_exec_loads.specs.Filing.{items_at}
use Rattle.gx_exec_loads.proofs.copies.edges_at.Given as goal

-- the edges so far and those at the rest of the positions are all
abbrev pub invariant-loop-rest : goal.invariant-loop-rest
invariant-loop-rest l = edges_lent l.edges.items ++ items_at l.rows l.rest ≡ items_at l.rows l.positions

abbrev pub decreases-loop-rest : goal.decreases-loop-rest
decreases-loop-rest l = length l.rest
