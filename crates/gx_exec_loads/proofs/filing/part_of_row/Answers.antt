use Rattle.std.proofs.Common.{◌≡◌, sym}
use Rattle.gx_exec_loads.proofs.FiledRows.{part_of_row-one}
use Rattle.gx_exec_loads.proofs.filing.part_of_row.Goals as goal

pub returns-then-parts-eq1-clause-exact : goal.returns-then-parts-eq1-clause-exact
returns-then-parts-eq1-clause-exact c = sym (part_of_row-one c.args.kind c.args.cut c.args.parts c.args.n c.args.row.now c.if-parts-eq1.true)
