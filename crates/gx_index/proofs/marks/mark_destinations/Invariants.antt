use Rattle.std.proofs.Common.{◌≡◌, ◌<◌, All, length}
use Rattle.gx_index.specs.Ends.{with_destinations}
use Rattle.gx_index.proofs.marks.mark_destinations.Given as goal

-- the rest of the slots makes all of the sides
abbrev pub invariant-loop-rest : goal.invariant-loop-rest
invariant-loop-rest l =
    (with_destinations l.sides.items l.rest ≡ with_destinations l.fn.sides.items l.slots)
    × (length l.sides.items ≡ length l.fn.sides.items)
    × All (λ n. n < length l.fn.sides.items) l.rest

abbrev pub decreases-loop-rest : goal.decreases-loop-rest
decreases-loop-rest l = length l.rest
