use Rattle.std.proofs.Common.{◌<◌, drop, length, sym, ◌∙◌, arith}
use Rattle.std.proofs.lemmas.Option.{slice_get-get_or}
use Rattle.gx_index.proofs.Progress.{MakesProgress-first}
use Rattle.gx_index.proofs.Sets.{masked_ids-next, masked_ids-none, next-within}
use Rattle.gx_index.proofs.ids_of_set.IdsOfSetIterator.next.Goals as goal

pub returns-in_default-clause-steps : goal.returns-in_default-clause-steps
returns-in_default-clause-steps c =
    let it = c.self.inside in
    let none = masked_ids-none it.slot (drop it.slot it.mask.now) (drop it.slot it.ids.now) (sym c.in_default.ensures) in
    (sym c.self.view_is ∙ none, sym c.self.view_is ∙ none)

pub overflow_add-self : goal.overflow_add-self
overflow_add-self c =
    omega (arith, next-within c.self.inside.slot c.in-Some.slot c.self.inside.mask.now (sym c.in-Some.ensures), c.self.invariant.few, c.self.invariant.one_bool_each)

pub bounds-self-inside-slot : goal.bounds-self-inside-slot
bounds-self-inside-slot c =
    omega (arith, next-within c.self.inside.slot c.in-Some.slot c.self.inside.mask.now (sym c.in-Some.ensures), c.self.invariant.one_bool_each)

pub returns-clause-steps : goal.returns-clause-steps
returns-clause-steps c =
    let it = c.self.inside in
    let within : c.in-Some.slot < length it.ids.now = omega (arith, next-within it.slot c.in-Some.slot it.mask.now (sym c.in-Some.ensures), c.self.invariant.one_bool_each) in
    sym c.self.view_is
    ∙ masked_ids-next it.slot c.in-Some.slot it.mask.now it.ids.now _ (sym c.in-Some.ensures) (slice_get-get_or it.ids.now c.in-Some.slot _ within)

pub returns-clause-goes : goal.returns-clause-goes
returns-clause-goes c = MakesProgress-first _ _ _ _ (returns-clause-steps c)
