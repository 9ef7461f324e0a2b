use Rattle.std.proofs.Common.{◌<◌, ◌%◌, arith, refl}
use Rattle.std.proofs.lemmas.Option.{slice_get-map}
use Rattle.gx_chunks.proofs.Chunks.{IsPieceAt-chunks, IsPieceAt-past, nonempty-chunk, slice_get-chunks, slice_get-none}
use Rattle.gx_chunks.proofs.rows.Rows.chunk_from.Goals as goal

pub returns-in-Some-clause-piece : goal.returns-in-Some-clause-piece
returns-in-Some-clause-piece c =
    let some : 0 < 32 = omega arith in
    let at = rw c.as_slice.ensures.value at c.in-Some.ensures in
    rw (c.rest_from.ensures, c.as_slice-in-Some.ensures.value, c.deref.ensures, ← c.self.view_is)
    (IsPieceAt-chunks 32 _ c.args.slot c.in-Some.chunk.now.value.items some c.self.invariant (rw (slice_get-map, ← at) refl))

pub returns-in-Some-clause-nonempty : goal.returns-in-Some-clause-nonempty
returns-in-Some-clause-nonempty c within =
    let some : 0 < 32 = omega arith in
    let at = rw c.as_slice.ensures.value at c.in-Some.ensures in
    rw (c.rest_from.ensures, c.as_slice-in-Some.ensures.value, c.deref.ensures)
    (nonempty-chunk c.args.self.now c.in-Some.chunk.now.value.items c.args.slot (c.args.slot % 32)
    (rw (← c.self.view_is, slice_get-chunks 32 _ c.args.slot some c.self.invariant, slice_get-map, ← at) refl) within)

pub returns-in-None-clause-piece : goal.returns-in-None-clause-piece
returns-in-None-clause-piece c =
    let some : 0 < 32 = omega arith in
    let at = rw c.as_slice.ensures.value at c.in-None.ensures in
    IsPieceAt-past c.args.self.now c.args.slot (rw (← c.self.view_is, slice_get-chunks 32 _ c.args.slot some c.self.invariant, slice_get-map, ← at) refl)

pub returns-in-None-clause-nonempty : goal.returns-in-None-clause-nonempty
returns-in-None-clause-nonempty c within =
    let some : 0 < 32 = omega arith in
    let at = rw c.as_slice.ensures.value at c.in-None.ensures in
    absurd (omega (arith, slice_get-none c.args.self.now c.args.slot (rw (← c.self.view_is, slice_get-chunks 32 _ c.args.slot some c.self.invariant, slice_get-map, ← at) refl)))
