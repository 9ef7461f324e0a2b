use Rattle.std.proofs.Common.{◌≡◌, ◌++◌, length, map}
use Rattle.gx_epart.specs.Edges.{edges_lent}
use Rattle.gx_epart.proofs.numbering.sources_of.Given as goal

-- the sources so far and those of the rest are those of all edges
abbrev pub invariant-loop-rest : goal.invariant-loop-rest
invariant-loop-rest l = l.ids.items ++ map (λ e. e.0) (edges_lent l.rest) ≡ map (λ e. e.0) (edges_lent l.edges)

abbrev pub decreases-loop-rest : goal.decreases-loop-rest
decreases-loop-rest l = length l.rest
