use Rattle.std.proofs.Common.{◌≡◌, ◌++◌, length}
use Rattle.gx_index.specs.Merging.{merged, merged_from}
use Rattle.gx_index.proofs.ends.merge.Given as goal

-- the list so far, and the last entry with the rest, make the whole list
abbrev pub invariant-loop-rest : goal.invariant-loop-rest
invariant-loop-rest l = l.list.items ++ merged_from l.last l.rest ≡ merged l.entries

abbrev pub decreases-loop-rest : goal.decreases-loop-rest
decreases-loop-rest l = length l.rest
