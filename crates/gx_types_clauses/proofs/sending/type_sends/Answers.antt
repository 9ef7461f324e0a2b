use Rattle.gx_types_exprs.specs.ExprScopes.{scope_names}
use Rattle.gx_types_clauses.proofs.SendWalk.{sent-next, sent-none, sent-short}
use Rattle.gx_types_clauses.proofs.sending.type_sends.Goals as goal

pub clauses-init : goal.clauses-init
clauses-init c =
    sent-none (scope_names c.args.scope.now) c.as_slice-clause-items.result.now c.args.first c.new-typed.result c.new-typed.ensures
    (rw c.as_slice-clause-items.ensures c.requires.short_texts)

pub type_send-requires-clause-short_texts : goal.type_send-requires-clause-short_texts
type_send-requires-clause-short_texts c =
    sent-short (scope_names c.args.scope.now) c.as_slice-clause-items.result.now c.args.first c.clauses.clause-index c.clauses.typed c.clause-item.result c.clauses-test.true c.clause-item.is c.clauses.invariant

pub clauses-preserved : goal.clauses-preserved
clauses-preserved c =
    sent-next (scope_names c.args.scope.now) c.as_slice-clause-items.result.now c.args.first c.clauses.clause-index c.clauses.typed c.push.new.self c.clause-item.result c.in_ok-type_send.field-0 c.clauses-test.true c.clause-item.is c.clauses.invariant
    c.in_ok-type_send.ensures.typed c.in_ok-type_send.ensures.counted c.in_ok-push.ensures
