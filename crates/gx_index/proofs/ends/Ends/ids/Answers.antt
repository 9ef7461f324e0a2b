use Rattle.std.proofs.Common.{sym, ◌∙◌}
use Rattle.std.proofs.lemmas.Map.Made.{keys_of-zip}
use Rattle.gx_index.proofs.ends.Ends.ids.Goals as goal

pub returns-clause-exact : goal.returns-clause-exact
returns-clause-exact c =
    rw (← c.self.view_is)
    (rw c.deref.ensures at c.ids.ensures.exact ∙ sym (keys_of-zip c.self.inside.index.value c.self.inside.sides.value.items c.self.invariant.one_each))

pub returns-clause-ascending : goal.returns-clause-ascending
returns-clause-ascending c = rw (← c.self.view_is, keys_of-zip c.self.inside.index.value c.self.inside.sides.value.items c.self.invariant.one_each) c.self.invariant.ascending
