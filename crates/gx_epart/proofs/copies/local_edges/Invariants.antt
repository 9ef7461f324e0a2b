use Rattle.std.proofs.Common.{◌≡◌, ◌++◌, All, drop}
use Rattle.gx_epart.specs.Edges.{edges_lent}
use Rattle.gx_epart.specs.Numbers.{IsInRange, edges_of_locals, rows_of}
use Rattle.gx_epart.proofs.copies.local_edges.Given as goal

-- the edges so far and those of the rest are all edges
abbrev pub invariant-loop-row : goal.invariant-loop-row
invariant-loop-row l =
    let edges = edges_lent l.edges in
    (edges_of_locals l.ends (rows_of edges) l.locals.items ++ drop l.row edges ≡ edges)
    × All (IsInRange l.ends (rows_of edges)) l.locals.items
