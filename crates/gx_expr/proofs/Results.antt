-- What is known of each result that is evaluated.
use Rattle.gx_expr.specs.ResultBounds.{evaluates-bounded}
use Rattle.gx_expr.specs.ResultKinds.{evaluates-kind}

pub ruleset evaluated = (evaluates-bounded, evaluates-kind)
