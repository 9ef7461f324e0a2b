use Rattle.std.proofs.Common.{◌≡◌, ◌++◌, IsPermutation, ap, sym, ◌∙◌, subst}
use Rattle.std.specs.Map.{keys_of}
use Rattle.std.proofs.lemmas.Result.{IfOk-weaker}
use Rattle.gx_index.specs.Ids.{HasDistinctIds, IsAscending}
use Rattle.gx_gops.specs.AllEdges.{edges_of_parts}
use Rattle.gx_gops.specs.Tables.{default_rows, ends_in_part, table_of}
use Rattle.gx_gops.specs.RowLaws.{HasDistinctIds-with_missing, empty_from_length, if_ok_both, table_of-complete, table_of-with_missing}
use Rattle.gx_gops.proofs.missing_ends.with_missing.Goals as goal

pub returns-then-is_empty : goal.returns-then-is_empty
returns-then-is_empty c =
    let rows = c.args.rows.now in
    let row = c.args.default.now in
    let edges = edges_of_parts c.args.edges.now in
    let all = rows ++ default_rows row (ends_in_part c.args.part c.args.parts edges) in
    let none = sym c.as_slice-ids.ensures.value ∙ empty_from_length _ (sym c.is_empty.ensures ∙ c.if-is_empty.true) in
    let complete = table_of-complete rows c.args.part c.args.parts edges c.in_ok-missing.missing.items c.in_ok-missing.ensures row none c.rows-ascending.ensures.ascending in
    IfOk-weaker c.shared.result (λ same. same ≡ rows) (λ table. table ≡ table_of all) (λ same e. e ∙ complete) c.shared.ensures

pub table_of_runs-requires : goal.table_of_runs-requires
table_of_runs-requires c =
    let rows = c.args.rows.now in
    let row = c.args.default.now in
    let missing = c.in_ok-missing.missing.items in
    let all : c.in_ok-all.all.items ≡ rows ++ default_rows row missing = c.in_ok-all.ensures ∙ ap (λ ids. rows ++ default_rows row ids) c.as_slice-ids.ensures.value in
    subst (λ rs. HasDistinctIds (keys_of rs)) (sym all)
    (HasDistinctIds-with_missing rows c.args.part c.args.parts (edges_of_parts c.args.edges.now) missing c.in_ok-missing.ensures row c.rows-ascending.ensures.ascending)

pub returns : goal.returns
returns c =
    let rows = c.args.rows.now in
    let row = c.args.default.now in
    let edges = edges_of_parts c.args.edges.now in
    let missing = c.in_ok-missing.missing.items in
    let all : c.in_ok-all.all.items ≡ rows ++ default_rows row missing = c.in_ok-all.ensures ∙ ap (λ ids. rows ++ default_rows row ids) c.as_slice-ids.ensures.value in
    if_ok_both (λ part. IsAscending (keys_of part)) (λ part. IsPermutation c.in_ok-all.all.items part) (λ table. table ≡ table_of (rows ++ default_rows row (ends_in_part c.args.part c.args.parts edges))) c.table_of_runs.result
    (λ part ascending same. table_of-with_missing rows c.args.part c.args.parts edges missing c.in_ok-missing.ensures row part ascending (subst (λ rs. IsPermutation rs part) all same))
    c.table_of_runs.ensures.ascending c.table_of_runs.ensures.same
