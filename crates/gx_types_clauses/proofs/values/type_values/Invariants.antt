use Rattle.gx_types_exprs.specs.ExprScopes.{scope_names}
use Rattle.gx_types_clauses.proofs.ValueWalk.{AreTyped}
use Rattle.gx_types_clauses.proofs.values.type_values.Given as goal

-- the values passed are checked
abbrev pub invariant-values : goal.invariant-values
invariant-values l = AreTyped (scope_names l.scope) l.value-items l.fn.first l.value-index l.typed
