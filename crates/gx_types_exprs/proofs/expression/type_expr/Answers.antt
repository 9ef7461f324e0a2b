use Rattle.gx_types_exprs.specs.ExprScopes.{scope_names}
use Rattle.gx_types_exprs.proofs.Soundness.{accepted_result}
use Rattle.gx_types_exprs.proofs.expression.type_expr.Goals as goal

pub returns-clause-well_typed : goal.returns-clause-well_typed
returns-clause-well_typed c =
    (accepted_result (scope_names c.args.scope.now) c.args.first c.args.expression.now c.type_shallow.result c.accepted_exprs_are_well_typed.ensures c.requires.short_texts c.type_shallow.ensures.typed).0

pub returns-clause-numbered : goal.returns-clause-numbered
returns-clause-numbered c =
    (accepted_result (scope_names c.args.scope.now) c.args.first c.args.expression.now c.type_shallow.result c.accepted_exprs_are_well_typed.ensures c.requires.short_texts c.type_shallow.ensures.typed).1
