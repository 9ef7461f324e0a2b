use Rattle.std.proofs.Common.{◌≤◌, List, length, All}
use Rattle.gx_load.specs.Fitting.{FitsColumns}
use Rattle.gx_load.specs.Loading.{LoadedRow, MOST_ROWS, row_of}
use Rattle.gx_load.proofs.FittingLemmas.{rows_are_few, rows_fit}
use Rattle.gx_load.proofs.GivesLemmas.{Gives-if_ok}
use Rattle.gx_load.proofs.loading.rows_of.Goals as goal

pub returns-clause-fits : goal.returns-clause-fits
returns-clause-fits c =
    let h = c.in_ok-header.header in
    Gives-if_ok (λ v. v.items) c.rows_from.result _ (λ (rows : List LoadedRow). All (λ r. FitsColumns c.args.columns.now r.2) rows) c.rows_from.ensures
    (λ rows e. rows_fit h.keys c.args.columns.now h.kinds.items h.width h.positions.items c.take.new.self rows c.in_ok-header.ensures.kinds_kept e)

pub returns-clause-few_rows : goal.returns-clause-few_rows
returns-clause-few_rows c =
    let h = c.in_ok-header.header in
    Gives-if_ok (λ v. v.items) c.rows_from.result _ (λ (rows : List LoadedRow). length rows ≤ MOST_ROWS) c.rows_from.ensures
    (λ rows e. rows_are_few (row_of h.keys h.kinds.items h.width h.positions.items) c.take.new.self rows e)
