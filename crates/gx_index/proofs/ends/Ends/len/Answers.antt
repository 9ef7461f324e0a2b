use Rattle.std.proofs.Common.{◌∙◌, arith}
use Rattle.std.proofs.lemmas.Map.Made.{keys_of-zip}
use Rattle.gx_index.proofs.EndsBySlot.{length-ends}
use Rattle.gx_index.proofs.ends.Ends.len.Goals as goal

pub returns-clause-count : goal.returns-clause-count
returns-clause-count c =
    rw (← c.self.view_is)
    (rw c.deref.ensures at c.len.ensures.count ∙ length-ends c.self.inside.index.value c.self.inside.sides.value.items c.self.invariant.one_each)

pub returns-clause-fits_u32 : goal.returns-clause-fits_u32
returns-clause-fits_u32 c =
    rw (← c.self.view_is)
    (omega (arith, c.self.invariant.few, length-ends c.self.inside.index.value c.self.inside.sides.value.items c.self.invariant.one_each))

pub returns-clause-ascending : goal.returns-clause-ascending
returns-clause-ascending c = rw (← c.self.view_is, keys_of-zip c.self.inside.index.value c.self.inside.sides.value.items c.self.invariant.one_each) c.self.invariant.ascending
