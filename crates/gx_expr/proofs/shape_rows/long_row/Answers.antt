use Rattle.std.proofs.Common.{arith}
use Rattle.gx_expr.proofs.ValueByValue.{row-more}
use Rattle.gx_expr.proofs.shape_rows.long_row.Goals as goal

pub loop-e-preserved : goal.loop-e-preserved
loop-e-preserved g c =
    let pushed = rw (← c.in_ok-map_err.ensures.variant) at c.push.ensures.items in
    let added = rw (← c.in_ok-map_err.ensures.variant) at c.push.ensures.len in
    record {
      so_far = row-more (g.S.Scope.values c.args.scope.now) c.args.shapes.now c.loop-e.e-index c.e-item.result c.loop-e.values.items c.push.new.self.items c.in_ok-value.value c.loop-e-test.true c.e-item.is c.in_ok-value.ensures.defined pushed c.loop-e.invariant.so_far;
      count = omega (arith, added);
    }
