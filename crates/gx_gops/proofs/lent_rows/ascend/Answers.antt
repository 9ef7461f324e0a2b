use Rattle.std.proofs.Common.{rules}
use Rattle.std.proofs.lemmas.List.Sorted.{answers_always}
use Rattle.std.specs.Ordering.{is_lt}
use Rattle.gx_index.specs.Ids.{id_cmp}
use Rattle.gx_gops.proofs.LentTables.{ascending-if_sorted}
use Rattle.gx_gops.proofs.lent_rows.ascend.Goals as goal

pub returns : goal.returns
returns c = ascending-if_sorted (λ v. (v.0, v.1.now)) c.args.rows.now c.is_sorted_by.result _ (c.is_sorted_by.ensures.cases (λ x y. is_lt (id_cmp x.0 y.0)) (answers_always _ _ _ (λ f a r f' k. search rules)))
