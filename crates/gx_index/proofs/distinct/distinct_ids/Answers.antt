use Rattle.std.proofs.lemmas.List.Filters.{dedup_is}
use Rattle.gx_index.proofs.Merging.{IsSetOf-dedup}
use Rattle.gx_index.proofs.distinct.distinct_ids.Goals as goal

pub returns : goal.returns
returns c =
    rw (dedup_is _ _ _ c.dedup.ensures.filtered, ← c.in_ok-distinct.ensures.items)
    (IsSetOf-dedup c.in_ok-distinct.distinct.items c.sort.new.self.items c.in_ok-sort.ensures.permutation c.in_ok-sort.ensures.sorted)
