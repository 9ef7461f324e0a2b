use Rattle.std.proofs.Common.{◌≡◌, ◌∷◌, ℕ, List, Result, arith}
use Rattle.csv.specs.Records.{fields_of}
use Rattle.gx_load.specs.Loading.{LoadedRow, row_of}
use Rattle.gx_load.specs.declared.load_stop.LoadStop.{LoadStop}
use Rattle.gx_load.proofs.FileLemmas.{rows_from-done, rows_from-more, rows_from-stop, rows_from-too_many}
use Rattle.gx_load.proofs.GivesLemmas.{Gives-carried}
use Rattle.gx_load.proofs.loading.rows_from.Goals as goal

pub returns-then-row-most : goal.returns-then-row-most
returns-then-row-most c =
    let read : ℕ → List (List ℕ) → Result LoadedRow LoadStop = row_of c.args.header.now.keys c.args.header.now.kinds.items c.args.header.now.width c.args.header.now.positions.items in
    let next : c.rows.records ≡ fields_of c.take.new.row ∷ c.take.new.self = rw c.if-branch.true at c.in_ok-take.ensures in
    rows_from-too_many read c.rows.rows.items c.rows.row (fields_of c.take.new.row) c.rows.records c.take.new.self _ (omega arith) next c.rows.invariant.so_far

pub returns-in_err-row_of : goal.returns-in_err-row_of
returns-in_err-row_of c =
    let read : ℕ → List (List ℕ) → Result LoadedRow LoadStop = row_of c.args.header.now.keys c.args.header.now.kinds.items c.args.header.now.width c.args.header.now.positions.items in
    let next : c.rows.records ≡ fields_of c.take.new.row ∷ c.take.new.self = rw c.if-branch.true at c.in_ok-take.ensures in
    Gives-carried (λ r. r) (λ v. v.items) c.from_residual-in_err-row_of.result c.in_err-row_of.field-0.0 _ _ c.from_residual-in_err-row_of.ensures.1 c.in_err-row_of.ensures
    (λ refused. rows_from-stop read c.rows.rows.items c.rows.row (fields_of c.take.new.row) c.rows.records c.take.new.self _ c.in_err-row_of.field-0.0 (omega arith) next refused c.rows.invariant.so_far)

pub rows-preserved : goal.rows-preserved
rows-preserved c =
    let read : ℕ → List (List ℕ) → Result LoadedRow LoadStop = row_of c.args.header.now.keys c.args.header.now.kinds.items c.args.header.now.width c.args.header.now.positions.items in
    let next : c.rows.records ≡ fields_of c.take.new.row ∷ c.take.new.self = rw c.if-branch.true at c.in_ok-take.ensures in
    record {
      so_far = rw (rw (← c.in_ok-map_err.ensures.variant) at c.push.ensures.items)
          (rows_from-more read c.rows.rows.items c.rows.row (fields_of c.take.new.row) c.rows.records c.take.new.self _ c.in_ok-row_of.field-0 (omega arith) next c.in_ok-row_of.ensures c.rows.invariant.so_far);
      few = omega arith;
    }

pub returns : goal.returns
returns c =
    let read : ℕ → List (List ℕ) → Result LoadedRow LoadStop = row_of c.args.header.now.keys c.args.header.now.kinds.items c.args.header.now.width c.args.header.now.positions.items in
    rows_from-done read c.rows.rows.items c.rows.row c.rows.records _ (rw c.if-branch.false at c.in_ok-take.ensures).0 c.rows.invariant.so_far
