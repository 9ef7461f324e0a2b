use Rattle.std.proofs.Common.{◌<◌, drop, length, sym, ◌∙◌, arith}
use Rattle.std.proofs.lemmas.Option.{slice_get-get_or}
use Rattle.gx_chunks.specs.PieceLaws.{IsPieceAt-rest, slice_get-piece}
use Rattle.gx_vpart.proofs.Progress.{MakesProgress-first}
use Rattle.gx_vpart.proofs.MaskedRows.{masked_rows-next, masked_rows-none, next-within}
use Rattle.gx_vpart.proofs.vrows.VRowsIterator.next.Goals as goal

pub returns-in_default-clause-steps : goal.returns-in_default-clause-steps
returns-in_default-clause-steps c =
    let it = c.self.inside in
    let none = masked_rows-none it.slot (drop it.slot it.mask.now) (drop it.slot it.ids.now) (drop it.slot it.rows.now) (sym c.in_default.ensures) in
    (sym c.self.view_is ∙ none, sym c.self.view_is ∙ none)

pub returns-in_default-row_and_rest-clause-steps : goal.returns-in_default-row_and_rest-clause-steps
returns-in_default-row_and_rest-clause-steps c =
    let within = next-within c.self.inside.slot c.in-Some.slot c.self.inside.mask.now (sym c.in-Some.ensures) in
    absurd (omega (arith, within, c.in_default-row_and_rest.ensures, c.self.invariant.0.one_row_each, c.self.invariant.0.one_bool_each))

pub overflow_add-self : goal.overflow_add-self
overflow_add-self c =
    omega (arith, next-within c.self.inside.slot c.in-Some.slot c.self.inside.mask.now (sym c.in-Some.ensures), c.self.invariant.0.few, c.self.invariant.0.one_bool_each)

pub bounds-self-inside-slot : goal.bounds-self-inside-slot
bounds-self-inside-slot c =
    omega (arith, next-within c.self.inside.slot c.in-Some.slot c.self.inside.mask.now (sym c.in-Some.ensures), c.self.invariant.0.one_bool_each)

pub invariant_of-self : goal.invariant_of-self
invariant_of-self c = (c.self.invariant.0, IsPieceAt-rest c.self.inside.rows.now c.in-Some.slot c.in-Some-row_and_rest.row.now _ c.in-Some-row_and_rest.ensures)

pub returns-clause-steps : goal.returns-clause-steps
returns-clause-steps c =
    let it = c.self.inside in
    let within : c.in-Some.slot < length it.ids.now = omega (arith, next-within it.slot c.in-Some.slot it.mask.now (sym c.in-Some.ensures), c.self.invariant.0.one_bool_each) in
    sym c.self.view_is
    ∙ masked_rows-next it.slot c.in-Some.slot it.mask.now it.ids.now it.rows.now _ c.in-Some-row_and_rest.row.now (sym c.in-Some.ensures) (slice_get-get_or it.ids.now c.in-Some.slot _ within)
    (slice_get-piece it.rows.now c.in-Some.slot c.in-Some-row_and_rest.row.now _ c.in-Some-row_and_rest.ensures)

pub returns-clause-goes : goal.returns-clause-goes
returns-clause-goes c = MakesProgress-first _ _ _ _ (returns-clause-steps c)
