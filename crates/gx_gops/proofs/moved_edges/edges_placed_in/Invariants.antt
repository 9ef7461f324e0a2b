use Rattle.std.proofs.Common.{◌≡◌, ◌++◌}
use Rattle.gx_epart.specs.Edges.{edges_lent}
use Rattle.gx_gops.specs.AllEdges.{edges_of_parts}
use Rattle.gx_gops.specs.Moving.{edges_placed_in}
use Rattle.gx_gops.proofs.moved_edges.edges_placed_in.Given as goal

abbrev pub invariant-edges : goal.invariant-edges
invariant-edges l = record {
  can : goal.iterator-edges.can_next l.src-iterator;
  ends : goal.iterator-edges.is_finite l.src-iterator;
  so_far : edges_lent l.placed.items ++ edges_placed_in l.cut l.part l.parts l.src-iterator ≡ edges_placed_in l.cut l.part l.parts (edges_of_parts l.edges);
}
