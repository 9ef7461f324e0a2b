use Rattle.std.proofs.Common.{sym, arith, refl}
use Rattle.gx_index.specs.Ids.{HasDistinctIds-from_ascending}
use Rattle.gx_vpart.proofs.MaskedRows.{row_at-masked_rows, row_at-no_slot, slot_of-within}
use Rattle.gx_vpart.proofs.vpart.VPart.row.Goals as goal

pub returns-in_default : goal.returns-in_default
returns-in_default c =
    let in' = c.self.inside in
    let none = sym (rw c.deref.ensures at c.in_default.ensures) in
    rw (← c.self.view_is, row_at-no_slot c.args.v in'.mask.value in'.index.value in'.rows.value none) refl

pub test-requires : goal.test-requires
test-requires c =
    let at = sym (rw c.deref.ensures at c.in-Some.ensures) in
    rw c.deref-2.ensures (omega (arith, slot_of-within c.args.v c.in-Some.slot c.self.inside.index.value at, c.self.invariant.one_bool_each))

pub returns-then-test : goal.returns-then-test
returns-then-test c =
    let in' = c.self.inside in
    let inv = c.self.invariant in
    let at = sym (rw c.deref.ensures at c.in-Some.ensures) in
    let there = rw c.deref-2.ensures at c.if-test.ensures in
    rw (← c.self.view_is, row_at-masked_rows c.args.v c.in-Some.slot in'.mask.value in'.index.value in'.rows.value (HasDistinctIds-from_ascending _ inv.ascending) inv.one_bool_each inv.one_row_each at, there)
    (rw c.deref-then-test.ensures at c.get.ensures)

pub returns-else-test : goal.returns-else-test
returns-else-test c =
    let in' = c.self.inside in
    let inv = c.self.invariant in
    let at = sym (rw c.deref.ensures at c.in-Some.ensures) in
    let there = rw c.deref-2.ensures at c.if-test.ensures in
    rw (← c.self.view_is, row_at-masked_rows c.args.v c.in-Some.slot in'.mask.value in'.index.value in'.rows.value (HasDistinctIds-from_ascending _ inv.ascending) inv.one_bool_each inv.one_row_each at, there) refl
