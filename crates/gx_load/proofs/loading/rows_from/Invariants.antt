use Rattle.std.proofs.Common.{◌≡◌, ◌≤◌, length}
use Rattle.gx_rows.specs.Results.{try_append}
use Rattle.gx_load.specs.Loading.{row_of, rows_from}
use Rattle.gx_load.proofs.loading.rows_from.Given as goal

abbrev pub invariant-rows : goal.invariant-rows
invariant-rows l =
    let read = row_of l.header.keys l.header.kinds.items l.header.width l.header.positions.items in
    record {
      so_far : try_append l.rows.items (rows_from read l.row l.records) ≡ rows_from read 1 l.fn.records;
      few : l.row ≤ 500001;
    }

abbrev pub decreases-rows : goal.decreases-rows
decreases-rows l = length l.records
