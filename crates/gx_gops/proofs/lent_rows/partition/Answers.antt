use Rattle.std.proofs.Common.{◌≡◌, zip, length, ap, ap₂, ◌∙◌, sym, subst, arith}
use Rattle.std.proofs.lemmas.Result.{IfOk-weaker}
use Rattle.gx_index.specs.Ids.{IsAscending}
use Rattle.gx_vpart.specs.LentRows.{vertices_lent}
use Rattle.gx_gops.proofs.LentTables.{length-keys, length-values, zip-columns}
use Rattle.gx_gops.proofs.lent_rows.partition.Goals as goal

pub from_sorted-requires-clause-few : goal.from_sorted-requires-clause-few
from_sorted-requires-clause-few c =
    omega (arith, c.requires.few, length-keys c.args.rows.now, ap length c.in_ok-ids.ensures.ids, c.in_ok-ids.ids.ok.0)

pub from_sorted-requires-clause-ascending : goal.from_sorted-requires-clause-ascending
from_sorted-requires-clause-ascending c = subst IsAscending (sym c.in_ok-ids.ensures.ids) c.requires.ascending

pub from_sorted-requires-clause-one_row_each : goal.from_sorted-requires-clause-one_row_each
from_sorted-requires-clause-one_row_each c =
    ap length c.in_ok-ids.ensures.rows ∙ length-values c.args.rows.now ∙ sym (length-keys c.args.rows.now) ∙ sym (ap length c.in_ok-ids.ensures.ids)

pub returns : goal.returns
returns c =
    IfOk-weaker c.from_sorted.result _ (λ table. table ≡ vertices_lent c.args.rows.now)
    (λ table is. is ∙ ap₂ (λ ids rows. zip ids rows) c.in_ok-ids.ensures.ids c.in_ok-ids.ensures.rows ∙ zip-columns (vertices_lent c.args.rows.now)) c.from_sorted.ensures
