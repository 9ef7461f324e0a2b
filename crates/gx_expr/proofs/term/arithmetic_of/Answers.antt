use Rattle.std.proofs.Common.{subst}
use Rattle.gx_expr.specs.Shapes.{IsLeafOf}
use Rattle.gx_expr.proofs.FormLemmas.{term-arithmetic}
use Rattle.gx_expr.proofs.term.arithmetic_of.Goals as goal

pub returns : goal.returns
returns c =
    let left : IsLeafOf c.in-Some.left c.args.a.now = subst (IsLeafOf c.in-Some.left) c.get.ensures c.in-Some.ensures in
    let right : IsLeafOf c.in-Some-of.right c.args.b.now = subst (IsLeafOf c.in-Some-of.right) c.get-2.ensures c.in-Some-of.ensures in
    term-arithmetic c.args.n c.args.operator c.args.a.now c.args.b.now c.in-Some.left c.in-Some-of.right c.requires left right
