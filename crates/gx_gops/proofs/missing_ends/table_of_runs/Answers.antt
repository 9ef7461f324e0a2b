use Rattle.std.proofs.Common.{IsPermutation}
use Rattle.std.proofs.lemmas.List.Sorted.{IsPermutation-trans}
use Rattle.gx_index.specs.Ids.{HasDistinctIds-IsPermutation}
use Rattle.std.proofs.lemmas.Result.{IfOk-weaker}
use Rattle.gx_gops.proofs.missing_ends.table_of_runs.Goals as goal

pub of-requires-clause-distinct : goal.of-requires-clause-distinct
of-requires-clause-distinct c = HasDistinctIds-IsPermutation (λ r. r.0) _ _ c.in_ok-sort_by_key.ensures.permutation c.requires

pub returns-clause-same : goal.returns-clause-same
returns-clause-same c =
    let rows = c.args.rows.items in
    let sorted = c.sort_by_key.new.self.items in
    IfOk-weaker c.of.result (λ part. IsPermutation sorted part) (λ part. IsPermutation rows part)
    (λ part same. IsPermutation-trans rows sorted part c.in_ok-sort_by_key.ensures.permutation same) c.of.ensures.same
