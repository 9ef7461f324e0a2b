use Rattle.std.proofs.Common.{◌≡◌, ◌+◌, ◌++◌, length}
use Rattle.gx_index.specs.Slots.{slots_from, slots_of}
use Rattle.gx_index.proofs.index.sorted_slots.Given as goal

abbrev pub invariant-loop-rest : goal.invariant-loop-rest
invariant-loop-rest l = (l.slots.items ++ slots_from l.slot l.rest ≡ slots_of l.ids) × (l.slot + length l.rest ≡ length l.ids)

abbrev pub decreases-loop-rest : goal.decreases-loop-rest
decreases-loop-rest l = length l.rest
