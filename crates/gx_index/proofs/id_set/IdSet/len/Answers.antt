use Rattle.std.proofs.Common.{◌∙◌}
use Rattle.gx_index.proofs.Sets.{length-masked_ids}
use Rattle.gx_index.proofs.id_set.IdSet.len.Goals as goal

pub returns : goal.returns
returns c = rw (← c.self.view_is) (c.count.ensures ∙ length-masked_ids c.self.inside.mask c.self.inside.index.value c.self.invariant.one_bool_each)
