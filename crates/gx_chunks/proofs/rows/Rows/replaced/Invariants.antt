use Rattle.std.proofs.Common.{◌≡◌, length}
use Rattle.std.specs.Map.{keys_of}
use Rattle.std.specs.Vec.Iter.{into_iter_items}
use Rattle.gx_chunks.specs.Editing.{AreSlotsWithin, with_items}
use Rattle.gx_chunks.proofs.rows.Rows.replaced.Given as goal

-- the rest of the rows are still to be put
abbrev pub invariant-rows : goal.invariant-rows
invariant-rows l = record {
  can : goal.iterator-rows.can_next l.slot-iterator;
  ends : goal.iterator-rows.is_finite l.slot-iterator;
  same : with_items l.editor.rows (into_iter_items l.slot-iterator) ≡ with_items l.self l.fn.rows.items;
  many : length l.editor.rows ≡ length l.self;
  slots : AreSlotsWithin l.editor.next (length l.self) (keys_of (into_iter_items l.slot-iterator));
}
