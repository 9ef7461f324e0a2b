use Rattle.std.proofs.Common.{List, [], ◌-◌, length}
use Rattle.gx_rows.specs.declared.value.Value.{Value as Cell}
use Rattle.gx_vpart.specs.Slots.{IsSpreadUpTo}
use Rattle.gx_vpart.proofs.slots.skip_unmasked.Given as goal

abbrev pub invariant-unmasked : goal.invariant-unmasked
invariant-unmasked l = record { same_rows : (rows : List (List Cell)) → IsSpreadUpTo [] l.mask rows l.fn.slot l.fn.builder → IsSpreadUpTo [] l.mask rows l.next l.builder }

abbrev pub decreases-unmasked : goal.decreases-unmasked
decreases-unmasked l = length l.mask - l.next
