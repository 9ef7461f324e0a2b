use Rattle.gx_types_exprs.specs.ExprScopes.{scope_names}
use Rattle.gx_types_exprs.proofs.Arguments.{AreChecked}
use Rattle.gx_types_exprs.proofs.tree.+tree.Given as goal

-- the arguments passed are checked
abbrev pub invariant-type_args-arguments : goal.invariant-type_args-arguments
invariant-type_args-arguments l = AreChecked (scope_names l.scope) l.argument-items l.fn.first l.argument-index l.checked
