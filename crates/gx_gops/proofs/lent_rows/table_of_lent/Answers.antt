use Rattle.std.proofs.Common.{◌≡◌, ap, ◌∙◌, subst}
use Rattle.std.specs.Map.{keys_of}
use Rattle.std.proofs.lemmas.Result.{IfOk-weaker}
use Rattle.gx_gops.specs.Tables.{table_of}
use Rattle.gx_gops.proofs.LentTables.{table_of-ascending}
use Rattle.gx_index.specs.Ids.{IsAscending}
use Rattle.gx_vpart.specs.LentRows.{vertices_lent}
use Rattle.gx_gops.proofs.lent_rows.table_of_lent.Goals as goal

pub returns-then-ascend : goal.returns-then-ascend
returns-then-ascend c =
    let rows = c.args.rows.items in
    let ascending = subst (λ rs. IsAscending (keys_of (vertices_lent rs))) c.as_slice.ensures.value (c.ascend.ensures c.if-ascend.true) in
    IfOk-weaker c.partition.result _ (λ t. t ≡ table_of (vertices_lent rows))
    (λ t e. e ∙ ap vertices_lent c.as_slice-then-ascend.ensures.value ∙ table_of-ascending (vertices_lent rows) ascending) c.partition.ensures
