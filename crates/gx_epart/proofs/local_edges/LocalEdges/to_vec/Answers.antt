use Rattle.std.proofs.lemmas.List.{append_assoc}
use Rattle.gx_epart.proofs.Traversing.{drop-at}
use Rattle.gx_epart.proofs.local_edges.LocalEdges.to_vec.Goals as goal

pub loop-i-preserved : goal.loop-i-preserved
loop-i-preserved c =
    let first = drop-at c.args.self.now c.loop-i.i _ c.get.ensures in
    let so_far = rw first at c.loop-i.invariant in
    rw (c.in_ok-push.ensures.items, append_assoc) so_far
