use Rattle.std.proofs.Common.{◌∙◌}
use Rattle.gx_epart.proofs.Columns.{dsts-of}
use Rattle.gx_epart.proofs.local_edges.LocalEdges.dsts.Goals as goal

pub returns : goal.returns
returns c = rw (← c.self.view_is) (c.as_slice.ensures.value ∙ dsts-of c.self.inside.srcs.items c.self.inside.dsts.items _ c.self.invariant.one_dst_each c.self.invariant.one_row_each)
