use Rattle.std.proofs.Common.{◌≡◌, ◌<◌, All, length}
use Rattle.gx_index.specs.Ends.{with_sources}
use Rattle.gx_index.proofs.marks.mark_sources.Given as goal

-- the rest of the slots makes all of the sides
abbrev pub invariant-loop-rest : goal.invariant-loop-rest
invariant-loop-rest l =
    (with_sources l.sides.items l.rest ≡ with_sources l.fn.sides.items l.slots)
    × (length l.sides.items ≡ length l.fn.sides.items)
    × All (λ n. n < length l.fn.sides.items) l.rest

abbrev pub decreases-loop-rest : goal.decreases-loop-rest
decreases-loop-rest l = length l.rest
