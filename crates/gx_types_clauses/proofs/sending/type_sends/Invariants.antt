use Rattle.gx_types_exprs.specs.ExprScopes.{scope_names}
use Rattle.gx_types_clauses.proofs.SendWalk.{AreSent}
use Rattle.gx_types_clauses.proofs.sending.type_sends.Given as goal

-- the sends passed are checked
abbrev pub invariant-clauses : goal.invariant-clauses
invariant-clauses l = AreSent (scope_names l.scope) l.clause-items l.fn.first l.clause-index l.typed
