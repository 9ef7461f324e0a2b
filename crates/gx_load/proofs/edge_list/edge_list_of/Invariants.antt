use Rattle.std.proofs.Common.{◌≡◌, ◌≤◌, ℕ, List, Result, length}
use Rattle.csv.specs.Reading.{strip_bom}
use Rattle.gx_rows.specs.Results.{try_append}
use Rattle.gx_load.specs.EdgeLists.{edge_at, edge_lines_from}
use Rattle.gx_load.specs.Loading.{LoadedRow, rows_from}
use Rattle.gx_load.specs.declared.load_stop.LoadStop.{LoadStop}
use Rattle.gx_load.proofs.edge_list.edge_list_of.Given as goal

abbrev pub invariant-rows : goal.invariant-rows
invariant-rows l =
    let read : ℕ → ℕ × List ℕ → Result LoadedRow LoadStop = λ row line. edge_at l.oriented line in
    record {
      so_far : try_append l.rows.items (rows_from read l.row l.lines) ≡ rows_from read 1 (edge_lines_from 1 (strip_bom l.bytes));
      few : l.row ≤ 500001;
    }

abbrev pub decreases-rows : goal.decreases-rows
decreases-rows l = length l.lines
