use Rattle.std.proofs.Common.{◌∙◌, length}
use Rattle.gx_index.specs.Ends.{AreSidesBySlot}
use Rattle.std.proofs.lemmas.Map.Made.{keys_of-zip}
use Rattle.gx_index.proofs.EndsBySlot.{HasSides-slots, IsEndsOf-slots}
use Rattle.gx_index.proofs.ends.Ends.of_slots.Goals as goal

pub returns-clause-ends : goal.returns-clause-ends
returns-clause-ends c =
    let count = rw c.deref.ensures at c.len.ensures.count in
    let few = rw c.deref.ensures at c.len.ensures.fits_u32 in
    let are : AreSidesBySlot (length c.args.index.value) c.args.srcs.now c.args.dsts.now c.in_ok-new.field-0.value.items = rw (c.in_ok-new.ensures.ok, ← count) c.in_ok-sides.ensures in
    IsEndsOf-slots c.args.index.value c.in_ok-new.field-0.value.items c.args.srcs.now c.args.dsts.now (HasSides-slots _ _ _ _ few c.requires.exact.ascending are) are c.requires.edges
    c.requires.sources c.requires.destinations c.requires.exact

pub returns-clause-ids : goal.returns-clause-ids
returns-clause-ids c =
    let count = rw c.deref.ensures at c.len.ensures.count in
    let are : AreSidesBySlot c.len.result c.args.srcs.now c.args.dsts.now c.in_ok-new.field-0.value.items = rw c.in_ok-new.ensures.ok c.in_ok-sides.ensures in
    keys_of-zip _ _ (are.one_each ∙ count)
