use Rattle.std.proofs.Common.{length, refl, sym, ◌∙◌, get_or}
use Rattle.std.proofs.lemmas.Option.{slice_get_read}
use Rattle.gx_index.specs.Ids.{id_cmp-exact}
use Rattle.gx_index.specs.Slots.{slots_of}
use Rattle.gx_index.proofs.Searching.{IsSearchResult-IsPermutation, ascending_sorted, lookup-IsSearchResult, search-miss}
use Rattle.gx_index.proofs.Slots.{keys_of-slots_of, lookup-slots_of, slot_of-at, slot_of-none}
use Rattle.gx_index.proofs.index.Index.find.Goals as goal

pub returns-in-Ok : goal.returns-in-Ok
returns-in-Ok c =
    let ids = c.self.inside.ids.items in
    let at = rw c.as_slice.ensures.value at c.in-Ok.ensures.position in
    let within = rw c.as_slice.ensures.value at c.in-Ok.ensures.bound in
    let found = id_cmp-exact (get_or ids c.in-Ok.slot c.args.v) c.args.v (at c.args.v) in
    rw (← c.self.view_is) (sym (slot_of-at ids c.in-Ok.slot c.args.v c.self.invariant.distinct (slice_get_read ids (length ids) c.in-Ok.slot c.args.v refl within (sym found))))

pub returns-in-Err : goal.returns-in-Err
returns-in-Err c =
    let ids = c.self.inside.ids.items in
    let says = rw c.as_slice.ensures.value at c.in-Err.ensures.position in
    let ascending = rw c.in-None.is at c.self.invariant.searchable in
    rw (← c.self.view_is) (sym (slot_of-none c.args.v ids (search-miss (λ w. w) c.args.v ids c.in-Err.field-0 (ascending_sorted ids ascending) says)))

pub returns-in-Some : goal.returns-in-Some
returns-in-Some c =
    let ids = c.self.inside.ids.items in
    let slots = rw c.in-Some.is at c.self.invariant.searchable in
    let found = rw c.as_slice-in-Some.ensures.value at c.find_under.ensures in
    rw (← c.self.view_is)
    (lookup-IsSearchResult (slots_of ids) c.args.v c.find_under.result (rw keys_of-slots_of c.self.invariant.distinct) (IsSearchResult-IsPermutation (slots_of ids) c.in-Some.slots.items c.args.v c.find_under.result slots.1 found)
    ∙ lookup-slots_of c.args.v ids)
