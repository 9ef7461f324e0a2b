use Rattle.std.proofs.Common.{◌≡◌, ◌++◌, length}
use Rattle.gx_index.specs.Merging.{end_entries}
use Rattle.gx_index.proofs.ends.sorted_entries.Given as goal

-- the entries so far and those of the rest are the entries of all edges
abbrev pub invariant-loop-rest : goal.invariant-loop-rest
invariant-loop-rest l = l.entries.items ++ end_entries l.rest ≡ end_entries l.edges

abbrev pub decreases-loop-rest : goal.decreases-loop-rest
decreases-loop-rest l = length l.rest
