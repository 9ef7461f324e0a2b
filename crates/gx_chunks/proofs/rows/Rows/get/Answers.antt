use Rattle.std.proofs.Common.{◌<◌, refl, arith}
use Rattle.std.proofs.lemmas.Option.{slice_get-map}
use Rattle.gx_chunks.proofs.Chunks.{slice_get-chunks}
use Rattle.gx_chunks.proofs.rows.Rows.get.Goals as goal

pub returns-in-Some : goal.returns-in-Some
returns-in-Some c =
    let some : 0 < 32 = omega arith in
    let at = rw c.as_slice.ensures.value at c.in-Some.ensures in
    rw (← c.self.view_is, slice_get-chunks 32 _ c.args.slot some c.self.invariant, slice_get-map, ← at)
    (rw (c.as_slice-in-Some.ensures.value, c.deref.ensures) at c.item-in-Some.ensures)

pub returns-in-None : goal.returns-in-None
returns-in-None c =
    let some : 0 < 32 = omega arith in
    let at = rw c.as_slice.ensures.value at c.in-None.ensures in
    rw (← c.self.view_is, slice_get-chunks 32 _ c.args.slot some c.self.invariant, slice_get-map, ← at) refl
