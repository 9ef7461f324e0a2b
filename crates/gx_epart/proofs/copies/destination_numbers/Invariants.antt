use Rattle.std.proofs.Common.{◌≡◌, All, length}
use Rattle.std.specs.Vec.Iter.{into_iter_items}
use Rattle.gx_epart.specs.Edges.{edges_lent}
use Rattle.gx_epart.proofs.Destinations.{AreNumbered, IsDestination}
use Rattle.gx_epart.proofs.copies.destination_numbers.Given as goal

-- the destinations of the rest are of edges, and the other ones have their numbers
abbrev pub invariant-loop-id : goal.invariant-loop-id
invariant-loop-id l =
    let rest = into_iter_items l.id-iterator in
    (length l.numbers.items ≡ length (edges_lent l.edges))
    × All (IsDestination (edges_lent l.edges)) rest
    × AreNumbered l.ends (edges_lent l.edges) rest l.numbers.items
