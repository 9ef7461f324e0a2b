use Rattle.gx_types_exprs.proofs.Columns.{position-below}
use Rattle.gx_types_exprs.proofs.expr_scope.find_column.Goals as goal

pub kind-requires : goal.kind-requires
kind-requires c = position-below c.args.name.now c.args.row_type.now c.in-Some.i (cc)
