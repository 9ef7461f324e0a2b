use Rattle.std.proofs.Common.{arith}
use Rattle.gx_load.proofs.CellValueLemmas.{ids_of_cell-long, ids_of_cell-refused, ids_of_cell-short}
use Rattle.gx_load.proofs.cell_value.ids_of_cell.Goals as goal

pub returns-in_err-read_numbers : goal.returns-in_err-read_numbers
returns-in_err-read_numbers c =
    ids_of_cell-refused c.from_residual.result c.in_err-read_numbers.field-0.0 _ c.args.cell.now {C = Unit {0}} (λ _. c.read_numbers.new.numbers.items) c.from_residual.ensures.1 c.in_err-read_numbers.ensures

pub returns-then-len-gt-MOST_LIST_ENTRIES : goal.returns-then-len-gt-MOST_LIST_ENTRIES
returns-then-len-gt-MOST_LIST_ENTRIES c =
    ids_of_cell-long c.args.cell.now c.read_numbers.new.numbers.items c.in_ok-read_numbers.ensures (omega (arith, c.len.ensures))

pub returns : goal.returns
returns c =
    rw (c.in_ok-sorted_list.ensures, c.as_slice.ensures.value)
    (ids_of_cell-short c.args.cell.now c.read_numbers.new.numbers.items c.in_ok-read_numbers.ensures (omega (arith, c.len.ensures)))
