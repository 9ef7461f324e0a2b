use Rattle.std.proofs.Common.{◌≡◌, ◌++◌}
use Rattle.std.specs.Map.{keys_of, values_of}
use Rattle.std.specs.Vec.Iter.{into_iter_items}
use Rattle.gx_vpart.proofs.columns.split.Given as goal

abbrev pub invariant-loop-v : goal.invariant-loop-v
invariant-loop-v l = record {
  can : goal.iterator-loop-v.can_next l.v-iterator;
  ends : goal.iterator-loop-v.is_finite l.v-iterator;
  ids : l.ids.items ++ keys_of (into_iter_items l.v-iterator) ≡ keys_of l.fn.rows.items;
  rows : l.builder ++ values_of (into_iter_items l.v-iterator) ≡ values_of l.fn.rows.items;
}
