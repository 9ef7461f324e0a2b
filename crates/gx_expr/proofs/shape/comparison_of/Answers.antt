use Rattle.std.proofs.Common.{subst}
use Rattle.gx_expr.specs.Shapes.{IsTermOf}
use Rattle.gx_expr.proofs.FormLemmas.{form-comparison}
use Rattle.gx_expr.proofs.shape.comparison_of.Goals as goal

pub returns : goal.returns
returns c =
    let left : IsTermOf c.in-Some.left c.args.a.now = subst (IsTermOf c.in-Some.left) c.get.ensures c.in-Some.ensures in
    let right : IsTermOf c.in-Some-of.right c.args.b.now = subst (IsTermOf c.in-Some-of.right) c.get-2.ensures c.in-Some-of.ensures in
    form-comparison c.args.n c.args.operator c.args.a.now c.args.b.now c.in-Some.left c.in-Some-of.right c.requires left right
