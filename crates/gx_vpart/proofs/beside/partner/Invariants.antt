use Rattle.std.proofs.Common.{length}
use Rattle.gx_vpart.proofs.Joining.{WalksTo}
use Rattle.gx_vpart.proofs.beside.partner.Given as goal

-- no row of the identifier was passed over
abbrev pub invariant-below : goal.invariant-below
invariant-below l = WalksTo l.v l.fn.rows l.rows

abbrev pub decreases-below : goal.decreases-below
decreases-below l = length l.rows
