use Rattle.gx_types_exprs.specs.ExprScopes.{scope_names}
use Rattle.gx_types_clauses.specs.ValueTyping.{column_values}
use Rattle.gx_types_clauses.proofs.ValueWalk.{AreTyped}
use Rattle.gx_types_clauses.proofs.values.type_column_values.Given as goal

-- the columns passed are checked
abbrev pub invariant-sets : goal.invariant-sets
invariant-sets l = AreTyped (scope_names l.scope) (column_values l.set-items) 0 l.set-index l.typed
