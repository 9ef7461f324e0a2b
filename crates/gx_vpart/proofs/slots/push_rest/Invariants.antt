use Rattle.std.proofs.Common.{List, []}
use Rattle.gx_rows.specs.declared.value.Value.{Value as Cell}
use Rattle.gx_vpart.specs.Slots.{IsSpreadUpTo}
use Rattle.gx_vpart.proofs.Spreading.{SpreadSoFar}
use Rattle.gx_vpart.proofs.slots.push_rest.Given as goal

abbrev pub invariant-rest : goal.invariant-rest
invariant-rest l = record { same_rows : (rows : List (List Cell)) → IsSpreadUpTo [] l.mask rows l.fn.slot l.fn.builder → SpreadSoFar {A = List Cell} [] l.mask rows l._next l.builder [] }
