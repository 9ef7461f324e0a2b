use Rattle.gx_types_exprs.specs.ExprScopes.{scope_names}
use Rattle.gx_types_exprs.specs.ExprTyping.{typed_expr}
use Rattle.gx_types_clauses.specs.ValueTyping.{column_values, typed_values, values_record}
use Rattle.gx_types_clauses.proofs.Conversions.{stop-converted}
use Rattle.gx_types_clauses.proofs.ValueWalk.{column-counted, column-next, column-short, column-stop}
use Rattle.gx_types_clauses.proofs.values.type_column_values.Goals as goal

pub type_expr-requires-clause-few_nodes : goal.type_expr-requires-clause-few_nodes
type_expr-requires-clause-few_nodes c =
    column-counted (scope_names c.args.scope.now) c.as_slice-set-items.result.now c.sets.set-index c.sets.typed c.set-item.result c.sets-test.true c.set-item.is c.sets.invariant (rw c.as_slice-set-items.ensures c.requires.few_nodes)

pub type_expr-requires-clause-short_texts : goal.type_expr-requires-clause-short_texts
type_expr-requires-clause-short_texts c =
    column-short c.as_slice-set-items.result.now c.sets.set-index c.set-item.result c.sets-test.true c.set-item.is (rw c.as_slice-set-items.ensures c.requires.short_texts)

pub sets-preserved : goal.sets-preserved
sets-preserved c =
    column-next (scope_names c.args.scope.now) c.as_slice-set-items.result.now c.sets.set-index c.sets.typed c.push.new.self c.set-item.result c.in_ok-type_expr.field-0 c.sets-test.true c.set-item.is c.sets.invariant
    c.in_ok-type_expr.ensures.typed c.in_ok-type_expr.ensures.counted c.in_ok-push.ensures.trees c.in_ok-push.ensures.kinds c.in_ok-push.ensures.next

pub returns-in_err-type_expr : goal.returns-in_err-type_expr
returns-in_err-type_expr c =
    let s = scope_names c.args.scope.now in
    let sets = c.as_slice-set-items.result.now in
    record {
      typed = rw (← c.as_slice-set-items.ensures) (stop-converted values_record c.from_residual.result c.in_err-type_expr.field-0.0 (typed_expr s c.sets.typed.next c.set-item.result.value) (typed_values s 0 (column_values sets))
          (λ f is. column-stop s sets c.sets.set-index c.sets.typed c.set-item.result f c.sets-test.true c.set-item.is c.sets.invariant is)
          c.from_residual.ensures.1 c.in_err-type_expr.ensures.typed);
    }
