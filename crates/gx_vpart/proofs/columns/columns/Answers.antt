use Rattle.std.proofs.Common.{rules}
use Rattle.std.proofs.lemmas.List.Sorted.{answers_always}
use Rattle.gx_vpart.proofs.Spreading.{IfOk-both}
use Rattle.gx_vpart.proofs.columns.columns.Goals as goal

pub returns : goal.returns
returns c =
    IfOk-both _ _ _ c.split.result
    (λ columns ids rows. record {
      sorted = c.sort_unstable_by_key.new.self.items;
      same = c.sort_unstable_by_key.ensures.permutation;
      order = c.sort_unstable_by_key.ensures.sorted (λ r. r.0) (answers_always _ _ _ (λ f a r q k. search rules));
      ids_are = ids;
      rows_are = rows;
    })
    c.split.ensures.ids c.split.ensures.rows
