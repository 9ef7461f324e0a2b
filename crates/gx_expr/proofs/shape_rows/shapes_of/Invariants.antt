use Rattle.std.proofs.Common.{◌≡◌, ◌++◌, drop}
use Rattle.gx_expr.proofs.shape_rows.shapes_of.Given as goal

abbrev pub invariant-shapes : goal.invariant-shapes
invariant-shapes l = l.shapes.items ++ drop l.expr-index l.exprs ≡ l.exprs
