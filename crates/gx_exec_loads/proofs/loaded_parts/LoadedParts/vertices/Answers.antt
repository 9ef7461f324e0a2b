use Rattle.std.proofs.Common.{◌≡◌, ap, ◌∙◌}
use Rattle.std.proofs.lemmas.Result.{IfOk-weaker}
use Rattle.gx_gops.specs.Tables.{table_of}
use Rattle.gx_exec_loads.proofs.RowsOfParts.{vertices-are}
use Rattle.gx_vpart.specs.LentRows.{vertices_lent}
use Rattle.gx_exec_loads.proofs.loaded_parts.LoadedParts.vertices.Goals as goal

pub returns : goal.returns
returns c =
    let copies = vertices_lent c.in_ok-vertices_at.field-0.items in
    let are = vertices-are c.args.self.now c.args.s c.args.part c.rows_of_part.result.0.now c.rows_of_part.result.1.now copies c.requires.loads_vertices c.rows_of_part.ensures.rows c.rows_of_part.ensures.positions c.in_ok-vertices_at.ensures in
    IfOk-weaker c.table_of_lent.result (λ t. t ≡ table_of copies) _ (λ t e. e ∙ ap table_of are) c.table_of_lent.ensures
