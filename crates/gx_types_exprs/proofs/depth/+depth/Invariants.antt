use Rattle.gx_types_exprs.proofs.Depths.{are_within}
use Rattle.gx_types_exprs.proofs.depth.+depth.Given as goal

-- the expressions passed are within the depth, so that the rest decides
abbrev pub invariant-are_within_depth-expressions : goal.invariant-are_within_depth-expressions
invariant-are_within_depth-expressions l = are_within l.expression-items l.expression-index l.most
