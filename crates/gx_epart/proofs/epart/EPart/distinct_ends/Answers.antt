use Rattle.gx_epart.proofs.DistinctEnds.{IsSetOf-ends}
use Rattle.gx_epart.proofs.epart.EPart.distinct_ends.Goals as goal

pub returns : goal.returns
returns c = rw (← c.self.view_is, c.ids.ensures.exact) (IsSetOf-ends _ c.self.inside.ends c.self.invariant.exact)
