use Rattle.std.proofs.Common.{◌≡◌, ℕ, List, Result, Ok, arith, sym}
use Rattle.csv.specs.Reading.{strip_bom}
use Rattle.gx_load.specs.EdgeLists.{edge_at, edge_lines_from, rows_of_edge_list}
use Rattle.gx_load.specs.Loading.{LoadedRow}
use Rattle.gx_load.specs.declared.load_stop.LoadStop.{LoadStop}
use Rattle.gx_load.proofs.FileLemmas.{rows_from-done, rows_from-more, rows_from-stop, rows_from-too_many}
use Rattle.gx_load.proofs.FittingLemmas.{edges_have_one, rows_are_few}
use Rattle.gx_load.proofs.GivesLemmas.{Gives-returned}
use Rattle.gx_load.proofs.edge_list.edge_list_of.Goals as goal

pub returns-then-row-most-clause-rows : goal.returns-then-row-most-clause-rows
returns-then-row-most-clause-rows c =
    let read : ℕ → ℕ × List ℕ → Result LoadedRow LoadStop = λ row line. edge_at c.args.oriented line in
    rows_from-too_many read c.rows.rows.items c.rows.row (c.in-Some.line.number, c.in-Some.line.text.now) c.rows.lines c.take.new.self _ (omega arith) c.in-Some.ensures c.rows.invariant.so_far

pub returns-in_err-edge_at-clause-rows : goal.returns-in_err-edge_at-clause-rows
returns-in_err-edge_at-clause-rows c =
    let read : ℕ → ℕ × List ℕ → Result LoadedRow LoadStop = λ row line. edge_at c.args.oriented line in
    Gives-returned _ c.from_residual.result c.in_err-edge_at.field-0.0 _ c.from_residual.ensures.1
    (rows_from-stop read c.rows.rows.items c.rows.row (c.in-Some.line.number, c.in-Some.line.text.now) c.rows.lines c.take.new.self _ c.in_err-edge_at.field-0.0 (omega arith) c.in-Some.ensures (sym c.in_err-edge_at.ensures) c.rows.invariant.so_far)

pub rows-preserved : goal.rows-preserved
rows-preserved c =
    let read : ℕ → ℕ × List ℕ → Result LoadedRow LoadStop = λ row line. edge_at c.args.oriented line in
    record {
      so_far = rw (rw (← c.in_ok-map_err.ensures.variant) at c.push.ensures.items)
          (rows_from-more read c.rows.rows.items c.rows.row (c.in-Some.line.number, c.in-Some.line.text.now) c.rows.lines c.take.new.self _ c.in_ok-edge_at.field-0 (omega arith) c.in-Some.ensures (sym c.in_ok-edge_at.ensures) c.rows.invariant.so_far);
      few = omega arith;
    }

pub returns : goal.returns
returns c =
    let read : ℕ → ℕ × List ℕ → Result LoadedRow LoadStop = λ row line. edge_at c.args.oriented line in
    let all : rows_of_edge_list c.args.oriented c.args.bytes.now ≡ Ok c.rows.rows.items =
    rows_from-done read c.rows.rows.items c.rows.row c.rows.lines _ c.in_default.ensures.0 c.rows.invariant.so_far in
    record {
      rows = all;
      each_row_is_one = edges_have_one c.args.oriented (edge_lines_from 1 (strip_bom c.args.bytes.now)) c.rows.rows.items all;
      few_rows = rows_are_few read (edge_lines_from 1 (strip_bom c.args.bytes.now)) c.rows.rows.items all;
    }
