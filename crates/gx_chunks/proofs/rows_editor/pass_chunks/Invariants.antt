use Rattle.std.proofs.Common.{◌≡◌, ◌-◌, ◌<◌, ◌≤◌, [], length}
use Rattle.gx_chunks.specs.Chunks.{shared_chunks}
use Rattle.gx_chunks.specs.Editing.{IsEdit, edited_items}
use Rattle.gx_chunks.proofs.rows_editor.pass_chunks.Given as goal

-- the items are the same, and no row stands alone once a chunk is passed
abbrev pub invariant-chunks : goal.invariant-chunks
invariant-chunks l = record {
  edit : IsEdit 32 (shared_chunks l.done.items) l.first.items (shared_chunks l.chunks);
  same : edited_items (shared_chunks l.done.items) l.first.items (shared_chunks l.chunks)
      ≡ edited_items (shared_chunks l.fn.done.items) l.fn.first.items (shared_chunks l.chunks);
  up_to : length l.done.items ≤ l.end;
  from : length l.fn.done.items ≤ length l.done.items;
  fewer : length l.first.items ≤ length l.fn.first.items;
  none : length l.fn.done.items < length l.done.items → l.first.items ≡ [];
}

abbrev pub decreases-chunks : goal.decreases-chunks
decreases-chunks l = l.end - length l.done.items
