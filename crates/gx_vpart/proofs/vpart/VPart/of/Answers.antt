use Rattle.std.proofs.Common.{◌≡◌, IsPermutation, zip, arith, sym, ap, ◌∙◌, subst}
use Rattle.std.specs.Map.{keys_of}
use Rattle.std.proofs.lemmas.Result.{IfOk-weaker}
use Rattle.gx_index.specs.Ids.{IsAscending}
use Rattle.gx_vpart.proofs.Spreading.{IsAscending-columns, keys_of-zip, length-columns, one_row_each-columns, zip-columns}
use Rattle.gx_vpart.proofs.vpart.VPart.of.Goals as goal

pub from_sorted-requires-clause-few : goal.from_sorted-requires-clause-few
from_sorted-requires-clause-few c = omega (arith, length-columns c.in_ok-ids.ensures, c.in_ok-ids.ids.ok.0, c.args.rows.ok.0, c.requires.few)

pub from_sorted-requires-clause-ascending : goal.from_sorted-requires-clause-ascending
from_sorted-requires-clause-ascending c = IsAscending-columns c.in_ok-ids.ensures c.requires.distinct

pub from_sorted-requires-clause-one_row_each : goal.from_sorted-requires-clause-one_row_each
from_sorted-requires-clause-one_row_each c = one_row_each-columns c.in_ok-ids.ensures

pub returns-clause-ascending : goal.returns-clause-ascending
returns-clause-ascending c =
    let ids = c.in_ok-ids.ids.items in
    let rows = c.in_ok-ids.rows in
    let columns = c.in_ok-ids.ensures in
    IfOk-weaker c.from_sorted.result (λ part. part ≡ zip ids rows) (λ part. IsAscending (keys_of part))
    (λ part is. subst IsAscending (sym (ap keys_of is ∙ keys_of-zip ids rows (one_row_each-columns columns))) (IsAscending-columns columns c.requires.distinct)) c.from_sorted.ensures

pub returns-clause-same : goal.returns-clause-same
returns-clause-same c =
    let ids = c.in_ok-ids.ids.items in
    let rows = c.in_ok-ids.rows in
    let columns = c.in_ok-ids.ensures in
    IfOk-weaker c.from_sorted.result (λ part. part ≡ zip ids rows) (λ part. IsPermutation c.args.rows.items part)
    (λ part is. subst (λ vs. IsPermutation c.args.rows.items vs) (sym (is ∙ zip-columns columns)) columns.same) c.from_sorted.ensures
