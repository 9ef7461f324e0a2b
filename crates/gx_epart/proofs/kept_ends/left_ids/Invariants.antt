use Rattle.std.proofs.Common.{◌≡◌, ◌≤◌, ◌+◌, ◌++◌, length}
use Rattle.gx_index.specs.Sets.{masked_ids}
use Rattle.gx_epart.specs.Renumbering.{numbers_anew}
use Rattle.gx_epart.proofs.kept_ends.left_ids.Given as goal

-- those so far and those of the rest are all
abbrev pub invariant-loop-others : goal.invariant-loop-others
invariant-loop-others l =
    (l.left.items ++ masked_ids l.others l.rest ≡ masked_ids l.marks l.ids)
    × (l.numbers.items ++ numbers_anew (length l.left.items) l.others ≡ numbers_anew 0 l.marks)
    × (length l.others ≡ length l.rest)
    × (length l.left.items + length l.rest ≤ length l.ids)

abbrev pub decreases-loop-others : goal.decreases-loop-others
decreases-loop-others l = length l.others
