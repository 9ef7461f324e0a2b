use Rattle.std.proofs.Common.{◌≡◌, get_or, sym, arith}
use Rattle.std.proofs.lemmas.List.{get_or_read_under}
use Rattle.csv.proofs.RecordFacts.{field-get}
use Rattle.csv.specs.Records.{fields_of}
use Rattle.gx_load.proofs.CellLemmas.{cell-no_field}
use Rattle.gx_load.proofs.row_cells.cell_at.Goals as goal

pub returns-in-Some : goal.returns-in-Some
returns-in-Some c =
    let position : c.index.result.now ≡ get_or c.args.header.now.positions.items c.args.column 0 =
    get_or_read_under c.args.header.now.positions.items c.args.column _ c.index.result.now 0 c.index.ensures c.requires (omega arith) in
    rw (← position) (sym (field-get (fields_of c.args.fields.now) c.index.result.now c.in-Some.cell.now (sym c.in-Some.ensures.value)))

pub returns-in-None : goal.returns-in-None
returns-in-None c =
    let position : c.index.result.now ≡ get_or c.args.header.now.positions.items c.args.column 0 =
    get_or_read_under c.args.header.now.positions.items c.args.column _ c.index.result.now 0 c.index.ensures c.requires (omega arith) in
    rw (← position) (sym (cell-no_field (fields_of c.args.fields.now) c.index.result.now (sym c.in-None.ensures.value)))
