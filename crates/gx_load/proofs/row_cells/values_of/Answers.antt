use Rattle.std.proofs.Common.{◌∙◌, sym, arith}
use Rattle.csv.specs.Records.{fields_of}
use Rattle.gx_rows.specs.Results.{try_append-done}
use Rattle.gx_load.proofs.GivesLemmas.{Gives-carried}
use Rattle.gx_load.proofs.RowLemmas.{values_after-done, values_after-more, values_after-stop}
use Rattle.gx_load.proofs.row_cells.values_of.Goals as goal

pub returns-in_err-value-clause-values : goal.returns-in_err-value-clause-values
returns-in_err-value-clause-values c =
    Gives-carried (λ v. v) (λ v. v.items) c.from_residual-in_err-value.result c.in_err-value.field-0.0 _ _ c.from_residual-in_err-value.ensures.1 c.in_err-value.ensures
    (λ refused. values_after-stop c.args.row c.args.header.now.keys c.args.header.now.kinds.items c.args.header.now.positions.items (fields_of c.args.fields.now)
    c.loop-i.values.items c.loop-i.i _ c.in_err-value.field-0.0 (omega arith) refused c.loop-i.invariant.so_far)

pub loop-i-preserved : goal.loop-i-preserved
loop-i-preserved c = record {
  so_far = rw (rw (← c.in_ok-map_err.ensures.variant) at c.push.ensures.items)
      (values_after-more c.args.row c.args.header.now.keys c.args.header.now.kinds.items c.args.header.now.positions.items (fields_of c.args.fields.now)
      c.loop-i.values.items c.loop-i.i _ c.in_ok-value.value (omega arith) c.in_ok-value.ensures c.loop-i.invariant.so_far);
  filled = omega (arith, rw (← c.in_ok-map_err.ensures.variant) at c.push.ensures.len);
  all = omega arith;
}

pub returns-clause-values : goal.returns-clause-values
returns-clause-values c =
    sym c.loop-i.invariant.so_far
    ∙ try_append-done _ _ (values_after-done c.args.row c.args.header.now.keys c.args.header.now.kinds.items c.args.header.now.positions.items (fields_of c.args.fields.now)
    c.loop-i.i (omega arith))
