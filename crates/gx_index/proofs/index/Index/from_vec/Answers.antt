use Rattle.std.proofs.Common.{rules}
use Rattle.gx_index.proofs.Slots.{IsAscending-from_is_sorted}
use Rattle.gx_index.proofs.index.Index.from_vec.Goals as goal

pub invariant_of-result : goal.invariant_of-result
invariant_of-result c = record {
  few = search rules;
  distinct = c.requires.distinct;
  searchable = IsAscending-from_is_sorted c.args.ids.items c.requires.distinct (rw c.as_slice.ensures.value at c.if-is_sorted.ensures.cases);
}
