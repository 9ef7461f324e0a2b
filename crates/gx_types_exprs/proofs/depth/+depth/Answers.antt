use Rattle.std.proofs.Common.{◌∙◌, nat_le, ap, sym, arith}
use Rattle.gx_syntax_tree.specs.Bounds.{depth}
use Rattle.gx_types_exprs.proofs.Depths.{suc-within}
use Rattle.gx_types_exprs.proofs.Trees.{depth-call}
use Rattle.gx_types_exprs.proofs.depth.+depth.Goals as goal

pub is_within_depth-returns-in-Call : goal.is_within_depth-returns-in-Call
is_within_depth-returns-in-Call t c =
    c.are_within_depth.ensures
    ∙ sym (suc-within _ c.args.most (omega arith))
    ∙ ap (λ d. nat_le d c.args.most) (sym (ap depth c.in-Call.is ∙ depth-call _ _))
