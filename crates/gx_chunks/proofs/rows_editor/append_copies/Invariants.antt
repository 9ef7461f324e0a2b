use Rattle.std.proofs.Common.{◌≡◌, ◌+◌, ◌++◌, length, take}
use Rattle.gx_chunks.proofs.rows_editor.append_copies.Given as goal

-- copies of so many rows stand after the others
abbrev pub invariant-loop-row : goal.invariant-loop-row
invariant-loop-row l = record {
  copied : l.rows.items ≡ l.fn.rows.items ++ take l.row-index l.more;
  many : length l.rows.items ≡ length l.fn.rows.items + l.row-index;
}
