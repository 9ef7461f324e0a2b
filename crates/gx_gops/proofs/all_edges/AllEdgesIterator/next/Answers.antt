use Rattle.std.proofs.Common.{◌∙◌, sym}
use Rattle.gx_gops.proofs.Edges.{edges_after-next}
use Rattle.gx_gops.proofs.all_edges.AllEdgesIterator.next.Goals as goal

pub returns-then-self-len-clause-steps : goal.returns-then-self-len-clause-steps
returns-then-self-len-clause-steps c =
    let here = rw c.deref-then-self-len.ensures at c.edge-edge.ensures in
    sym c.loop-self.invariant ∙ edges_after-next c.loop-self.self-inside.position c.loop-self.self-inside.parts.now c.part-item.result _ c.in-len1-up.len_at_least c.part-item.is here
