use Rattle.std.proofs.Common.{rules, ◌≡◌, None}
use Rattle.std.specs.List.{slice_get}
use Rattle.gx_epart.specs.Edges.{edges_lent}
use Rattle.gx_exec_loads.proofs.RowsOfParts.{no_item_at}
use Rattle.gx_exec_loads.proofs.copies.append_edge.Goals as goal

pub returns-in-None : goal.returns-in-None
returns-in-None c =
    let none : slice_get c.args.rows.now c.args.n ≡ None = search rules in
    no_item_at c.args.rows.now c.args.n (edges_lent c.args.edges.now.items) none
