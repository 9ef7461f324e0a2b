use Rattle.std.proofs.Common.{◌≤◌, ◌++◌, ◌∙◌, sym, ap, List, length, arith, ℕ}
use Rattle.csv.specs.Records.{fields_of}
use Rattle.gx_rows.specs.Columns.{names_of}
use Rattle.gx_rows.specs.Results.{try_append, try_append-done, try_append-try_cons, try_append-stop}
use Rattle.gx_load.specs.Loading.{key_names}
use Rattle.gx_load.proofs.GivesLemmas.{Gives-returned}
use Rattle.gx_load.proofs.HeaderLemmas.{length-column_names, positions_from-done, positions_from-step}
use Rattle.gx_load.proofs.header.positions_of.Goals as goal

pub returns-in_err-position-clause-positions : goal.returns-in_err-position-clause-positions
returns-in_err-position-clause-positions c =
    let names : List (List ℕ) = key_names c.args.keys ++ names_of c.args.columns.now in
    let step = positions_from-step c.loop-column.column names c.column_name-name.result.now (fields_of c.args.header.now) c.column_name-name.ensures in
    Gives-returned _ c.from_residual-in_err-position.result c.in_err-position.field-0.0 _ c.from_residual-in_err-position.ensures.1
    (sym c.loop-column.invariant.so_far ∙ ap (try_append c.loop-column.positions.items) step ∙ try_append-stop _ _ _ _ (sym c.in_err-position.ensures))

pub loop-column-preserved : goal.loop-column-preserved
loop-column-preserved c =
    let names : List (List ℕ) = key_names c.args.keys ++ names_of c.args.columns.now in
    let step = positions_from-step c.loop-column.column names c.column_name-name.result.now (fields_of c.args.header.now) c.column_name-name.ensures in
    record {
      so_far = rw (rw (← c.in_ok-map_err.ensures.variant) at c.push.ensures.items)
          (sym (try_append-try_cons c.loop-column.positions.items c.in_ok-position.position _ _ (sym c.in_ok-position.ensures))
          ∙ sym (ap (try_append c.loop-column.positions.items) step) ∙ c.loop-column.invariant.so_far);
      filled = omega (arith, rw (← c.in_ok-map_err.ensures.variant) at c.push.ensures.len);
      all = omega arith;
    }

pub returns-clause-positions : goal.returns-clause-positions
returns-clause-positions c =
    let names : List (List ℕ) = key_names c.args.keys ++ names_of c.args.columns.now in
    let past : length names ≤ c.loop-column.column = rw (length-column_names c.args.keys c.args.columns.now c.requires.keyed) (omega arith) in
    sym c.loop-column.invariant.so_far ∙ try_append-done _ _ (positions_from-done c.loop-column.column names (fields_of c.args.header.now) past)
