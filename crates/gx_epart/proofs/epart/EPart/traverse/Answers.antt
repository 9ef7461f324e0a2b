use Rattle.std.proofs.Common.{◌≡◌, [], ◌∷◌, ◌++◌, refl, rules}
use Rattle.std.proofs.lemmas.Option.{get_or_from_slice_get, slice_get_within}
use Rattle.gx_rows.specs.Order.{Edge}
use Rattle.gx_traverse.specs.Steps.{SoFar-more, SoFar-stop, stopped_at}
use Rattle.gx_epart.specs.Edges.{key_of_edge}
use Rattle.gx_epart.proofs.Traversing.{drop-at}
use Rattle.gx_epart.proofs.epart.EPart.traverse.Goals as goal

pub f-requires : goal.f-requires
f-requires g c =
    let edge : Edge = (c.edge.result.0, c.edge.result.1, c.edge.result.2.now) in
    rw (get_or_from_slice_get c.args.self.now c.loop-i.i edge edge c.edge.ensures) at
    (c.requires c.loop-i.i edge (slice_get_within c.args.self.now c.loop-i.i edge c.edge.ensures)) c.edge.result.2 refl

pub loop-i-preserved : goal.loop-i-preserved
loop-i-preserved g c =
    let items : c.push.new.self.items ≡ c.loop-i.values.items ++ c.in-Ok.value ∷ [] = search rules in
    rw items
    (SoFar-more _ _ c.in-Ok.value c.loop-i.invariant (drop-at c.args.self.now c.loop-i.i _ c.edge.ensures) (c.edge.result.2, refl, c.in-Ok.ensures))

pub returns-in-Err : goal.returns-in-Err
returns-in-Err g c =
    let edge : Edge = (c.edge.result.0, c.edge.result.1, c.edge.result.2.now) in
    let stop : c.stop_at.result ≡ stopped_at (key_of_edge edge) c.in-Err.stop = search rules in
    rw stop
    (SoFar-stop key_of_edge _ _ _ c.in-Err.stop c.loop-i.invariant (drop-at c.args.self.now c.loop-i.i _ c.edge.ensures) (c.edge.result.2, refl, c.in-Err.ensures))
