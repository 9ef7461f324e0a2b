use Rattle.std.proofs.Common.{◌++◌, length}
use Rattle.std.specs.List.{filter}
use Rattle.gx_gops.specs.AllEdges.{edges_of_parts}
use Rattle.gx_gops.specs.Tables.{HasSameIds, both_ends, is_missing}
use Rattle.gx_gops.proofs.missing_ends.missing_ends.Given as goal

-- the missing ends so far and those of the rest are all missing ends
abbrev pub invariant-loop-rest : goal.invariant-loop-rest
invariant-loop-rest l =
    HasSameIds (l.ids.items ++ filter (is_missing l.rows l.part l.parts) (both_ends (edges_of_parts l.rest)))
    (filter (is_missing l.rows l.part l.parts) (both_ends (edges_of_parts l.edges)))

abbrev pub decreases-loop-rest : goal.decreases-loop-rest
decreases-loop-rest l = length l.rest
