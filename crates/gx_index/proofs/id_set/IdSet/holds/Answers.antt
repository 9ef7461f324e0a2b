use Rattle.std.proofs.Common.{arith, sym, ◌∙◌}
use Rattle.gx_index.specs.Ids.{HasDistinctIds-from_ascending}
use Rattle.gx_index.proofs.Sets.{has_id-masked_ids, has_id-no_slot, slot_of-within}
use Rattle.gx_index.proofs.id_set.IdSet.holds.Goals as goal

pub test-requires : goal.test-requires
test-requires c =
    let at = sym (rw c.deref.ensures at c.in-Some.ensures) in
    omega (arith, slot_of-within c.args.v c.in-Some.slot c.self.inside.index.value at, c.self.invariant.one_bool_each)

pub returns-in-Some : goal.returns-in-Some
returns-in-Some c =
    let at = sym (rw c.deref.ensures at c.in-Some.ensures) in
    let bit = has_id-masked_ids c.args.v c.in-Some.slot c.self.inside.mask c.self.inside.index.value (HasDistinctIds-from_ascending _ c.self.invariant.ascending) c.self.invariant.one_bool_each at in
    let same = bit ∙ c.test.ensures in
    rw (← c.self.view_is) cc

pub returns-in-None : goal.returns-in-None
returns-in-None c =
    let none = sym (rw c.deref.ensures at c.in-None.ensures) in
    rw (← c.self.view_is) (sym (has_id-no_slot c.args.v c.self.inside.mask c.self.inside.index.value none))
