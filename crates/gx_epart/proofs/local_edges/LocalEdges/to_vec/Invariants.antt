use Rattle.std.proofs.Common.{◌≡◌, ◌++◌, drop}
use Rattle.gx_epart.proofs.local_edges.LocalEdges.to_vec.Given as goal

-- the edges so far and those of the rest are all edges
abbrev pub invariant-loop-i : goal.invariant-loop-i
invariant-loop-i l = l.list.items ++ drop l.i l.self ≡ l.self
