use Rattle.std.proofs.Common.{◌≡◌, length, arith, ap, ◌∙◌}
use Rattle.gx_load.proofs.CellValueLemmas.{text_of_cell-long, text_of_cell-not_utf8, text_of_cell-short}
use Rattle.gx_load.proofs.cell_value.text_of_cell.Goals as goal

pub returns-in_default : goal.returns-in_default
returns-in_default c = text_of_cell-not_utf8 c.args.cell.now c.in_default.ensures.cases.0

pub returns-then-len-gt-MOST_TEXT_BYTES : goal.returns-then-len-gt-MOST_TEXT_BYTES
returns-then-len-gt-MOST_TEXT_BYTES c =
    let same : length c.in-Ok.text.now ≡ length c.args.cell.now = ap length c.in-Ok.ensures.cases.0 in
    text_of_cell-long c.args.cell.now c.in-Ok.ensures.cases.1 (omega arith)

pub returns : goal.returns
returns c =
    let same : length c.in-Ok.text.now ≡ length c.args.cell.now = ap length c.in-Ok.ensures.cases.0 in
    rw (c.in_ok-of.ensures, c.in-Ok.ensures.cases.0)
    (text_of_cell-short c.args.cell.now c.in-Ok.ensures.cases.1 (omega arith))
