use Rattle.std.proofs.Common.{rules, ◌≡◌, None}
use Rattle.std.specs.List.{slice_get}
use Rattle.gx_exec_loads.proofs.RowsOfParts.{no_vertex_at}
use Rattle.gx_vpart.specs.LentRows.{vertices_lent}
use Rattle.gx_exec_loads.proofs.copies.append_vertex.Goals as goal

pub returns-in-None : goal.returns-in-None
returns-in-None c =
    let none : slice_get c.args.rows.now c.args.n ≡ None = search rules in
    no_vertex_at c.args.rows.now c.args.n (vertices_lent c.args.vertices.now.items) none
