use Rattle.std.proofs.Common.{sym}
use Rattle.gx_load.proofs.CellLemmas.{number_of-not_utf8}
use Rattle.gx_load.proofs.cell.parsed_number.Goals as goal

pub returns-in-Err : goal.returns-in-Err
returns-in-Err c = sym (number_of-not_utf8 c.args.text.now c.in-Err.ensures.cases.0)
