use Rattle.std.proofs.Common.{arith, rules}
use Rattle.gx_index.proofs.EndsBySlot.{end-at, length-ends}
use Rattle.gx_index.proofs.ends.Ends.end.Goals as goal

pub id_at-requires : goal.id_at-requires
id_at-requires c =
    let within = rw (← c.self.view_is) at c.requires in
    rw c.deref.ensures (omega (arith, within, length-ends c.self.inside.index.value c.self.inside.sides.value.items c.self.invariant.one_each))

pub index-requires : goal.index-requires
index-requires c =
    let within = rw (← c.self.view_is) at c.requires in
    let count = length-ends c.self.inside.index.value c.self.inside.sides.value.items c.self.invariant.one_each in
    let even = c.self.invariant.one_each in
    rw c.deref-2.ensures (search (rules, within, count, even))

pub returns : goal.returns
returns c =
    rw (← c.self.view_is)
    (end-at c.args.slot c.self.inside.index.value c.self.inside.sides.value.items c.id_at.result c.index.result.now c.self.invariant.one_each
    (rw c.deref.ensures at c.id_at.ensures) (rw c.deref-2.ensures at c.index.ensures))
