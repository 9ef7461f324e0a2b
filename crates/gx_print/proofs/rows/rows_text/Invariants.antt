use Rattle.std.proofs.Common.{◌≡◌, map, take}
use Rattle.gx_print.specs.RowTexts.{text_of_rows}
use Rattle.gx_print.specs.WriterStates.{IsAtLineStart, written_text}
use Rattle.gx_print.proofs.rows.rows_text.Given as goal

-- the header and the rows so far are written
abbrev pub invariant-loop-row : goal.invariant-loop-row
invariant-loop-row l = record {
  start : IsAtLineStart l.writer;
  text : written_text l.writer ≡ text_of_rows l.header (map (λ row. row.items) (take l.row-index l.rows));
}
