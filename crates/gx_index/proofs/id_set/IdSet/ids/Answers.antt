use Rattle.gx_index.proofs.Sets.{IsAscending-masked_ids}
use Rattle.gx_index.proofs.id_set.IdSet.ids.Goals as goal

pub returns-clause-ascending : goal.returns-clause-ascending
returns-clause-ascending c = rw (← c.self.view_is) (IsAscending-masked_ids c.self.inside.mask c.self.inside.index.value c.self.invariant.ascending)
