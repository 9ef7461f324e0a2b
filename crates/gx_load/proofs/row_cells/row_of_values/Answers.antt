use Rattle.std.proofs.Common.{arith}
use Rattle.csv.specs.Records.{fields_of}
use Rattle.gx_load.proofs.GivesLemmas.{Gives-carried}
use Rattle.gx_load.proofs.RowLemmas.{values_of_one, values_of_two, values_stop_first, values_stop_second}
use Rattle.gx_load.proofs.row_cells.row_of_values.Goals as goal

pub returns-in_err-value_at-in-1 : goal.returns-in_err-value_at-in-1
returns-in_err-value_at-in-1 c =
    Gives-carried (λ v. v) (λ r. r) c.from_residual.result c.in_err-value_at-in-1.field-0.0 _ _ c.from_residual.ensures.1 c.in_err-value_at-in-1.ensures
    (λ refused. values_stop_first c.args.row c.args.header.now.keys c.args.header.now.kinds.items c.args.header.now.positions.items (fields_of c.args.fields.now)
    c.in_err-value_at-in-1.field-0.0 (omega (arith, c.len.ensures, c.in-1.is)) refused)

pub returns-in_err-first-in-2 : goal.returns-in_err-first-in-2
returns-in_err-first-in-2 c =
    Gives-carried (λ v. v) (λ r. r) c.from_residual-in_err-first-in-2.result c.in_err-first-in-2.field-0.0 _ _ c.from_residual-in_err-first-in-2.ensures.1 c.in_err-first-in-2.ensures
    (λ refused. values_stop_first c.args.row c.args.header.now.keys c.args.header.now.kinds.items c.args.header.now.positions.items (fields_of c.args.fields.now)
    c.in_err-first-in-2.field-0.0 (omega (arith, c.len.ensures, c.in-2.is)) refused)

pub returns-in_err-second-in-2 : goal.returns-in_err-second-in-2
returns-in_err-second-in-2 c =
    Gives-carried (λ v. v) (λ r. r) c.from_residual-in_err-second-in-2.result c.in_err-second-in-2.field-0.0 _ _ c.from_residual-in_err-second-in-2.ensures.1 c.in_err-second-in-2.ensures
    (λ refused. values_stop_second c.args.row c.args.header.now.keys c.args.header.now.kinds.items c.args.header.now.positions.items (fields_of c.args.fields.now)
    c.in_ok-first-in-2.first c.in_err-second-in-2.field-0.0 (omega (arith, c.len.ensures, c.in-2.is)) c.in_ok-first-in-2.ensures refused)

pub returns-in_ok-value_at-in-1 : goal.returns-in_ok-value_at-in-1
returns-in_ok-value_at-in-1 c =
    rw c.one.ensures
    (values_of_one c.args.row c.args.header.now.keys c.args.header.now.kinds.items c.args.header.now.positions.items (fields_of c.args.fields.now)
    c.in_ok-value_at-in-1.field-0 (omega (arith, c.len.ensures, c.in-1.is)) c.in_ok-value_at-in-1.ensures)

pub returns-in_ok-second-in-2 : goal.returns-in_ok-second-in-2
returns-in_ok-second-in-2 c =
    rw c.two.ensures
    (values_of_two c.args.row c.args.header.now.keys c.args.header.now.kinds.items c.args.header.now.positions.items (fields_of c.args.fields.now)
    c.in_ok-first-in-2.first c.in_ok-second-in-2.second (omega (arith, c.len.ensures, c.in-2.is)) c.in_ok-first-in-2.ensures c.in_ok-second-in-2.ensures)
