use Rattle.std.proofs.Common.{◌≡◌, drop, vec_len}
use Rattle.gx_rows.specs.Results.{try_append}
use Rattle.gx_expr.specs.Evaluation.{row_result}
use Rattle.gx_expr.proofs.shape_rows.long_row.Given as goal

abbrev pub invariant-loop-e : goal.invariant-loop-e
invariant-loop-e g l =
    let s = g.S.Scope.values l.scope in
    record {
      so_far : try_append l.values.items (row_result s (drop l.e-index l.shapes)) ≡ row_result s l.shapes;
      count : vec_len l.values ≡ l.e-index;
    }
