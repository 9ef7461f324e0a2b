use Rattle.std.proofs.Common.{sym, rules}
use Rattle.std.proofs.lemmas.Option.{slice_get_within}
use Rattle.gx_index.proofs.EndsBySlot.{sides-found, sides-none, slot_of-Some}
use Rattle.gx_index.proofs.ends.Ends.side.Goals as goal

pub index-requires : goal.index-requires
index-requires c =
    let at = sym (rw c.deref.ensures at c.in-Some.ensures) in
    let within = slice_get_within c.self.inside.index.value c.in-Some.slot c.args.v (slot_of-Some c.args.v c.self.inside.index.value c.in-Some.slot at) in
    let count = c.self.invariant.one_each in
    rw c.deref-in-Some.ensures (search (rules, within, count))

pub returns-in-Some : goal.returns-in-Some
returns-in-Some c =
    let at = sym (rw c.deref.ensures at c.in-Some.ensures) in
    rw (← c.self.view_is)
    (sides-found c.args.v c.in-Some.slot c.self.inside.index.value c.self.inside.sides.value.items c.index.result.now c.self.invariant at (rw c.deref-in-Some.ensures at c.index.ensures))

pub returns-in-None : goal.returns-in-None
returns-in-None c =
    let none = sym (rw c.deref.ensures at c.in-None.ensures) in
    rw (← c.self.view_is) (sym (sides-none c.args.v 0 c.self.inside.index.value c.self.inside.sides.value.items none))
