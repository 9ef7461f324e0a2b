use Rattle.std.proofs.Common.{◌≡◌, length}
use Rattle.gx_gops.specs.AllEdges.{edges_after}
use Rattle.gx_gops.proofs.all_edges.AllEdgesIterator.next.Given as goal

-- no edge is passed over
abbrev pub invariant-loop-self : goal.invariant-loop-self
invariant-loop-self l = edges_after l.self-inside.position l.self-inside.parts.now ≡ l.fn.self

abbrev pub decreases-loop-self : goal.decreases-loop-self
decreases-loop-self l = length l.self-inside.parts.now
