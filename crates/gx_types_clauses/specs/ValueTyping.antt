-- Expressions of a statement: values of messages, computed columns, and tests.
use Rattle.std.specs.Prelude.{ℕ, Option, None, Some, Result, Ok, List, map, zip}
use Rattle.gx_rows.specs.Results.{◌>>=◌}
use Rattle.gx_syntax_tree.specs.declared.expr.Expr.{Expr as Written}
use Rattle.gx_syntax_tree.specs.declared.parts.ColumnExpr.{ColumnExpr}
use Rattle.gx_types_exprs.specs.ExprScopes.{ScopeNames}
use Rattle.gx_types_exprs.specs.ExprTyping.{Typing, TypedArgs, typed_args, typed_expr}
use Rattle.gx_types_exprs.specs.ExprTyping.{typed_predicate}
use Rattle.gx_types_exprs.specs.declared.typed_expr.TypedExpr.{TypedExpr}
use Rattle.gx_types_clauses.specs.StmtStops.{of_expr}
use Rattle.gx_types_clauses.specs.declared.sets.TypedSets.{TypedSets}
use Rattle.gx_types_clauses.specs.declared.stmt_stop.StmtStop.{StmtStop}
use Rattle.gx_types_clauses.specs.declared.tests_of_rows.TypedTest.{TypedTest}
use Rattle.gx_types_clauses.specs.declared.values.TypedValues.{TypedValues}

abbrev pub expr_typing : ScopeNames → Written → Typing
expr_typing s e n = typed_expr s n e

-- expressions one after the other, numbered from a given number on
abbrev pub typed_values : ScopeNames → ℕ → List Written → Result TypedArgs StmtStop
typed_values s n es = of_expr (typed_args (map (expr_typing s) es) n)

abbrev pub column_values : List ColumnExpr → List Written
column_values sets = map (λ c. c.value) sets

-- columns that are computed: their expressions, and their names with the kinds of these
abbrev pub typed_sets : ScopeNames → List ColumnExpr → Result TypedSets StmtStop
typed_sets s sets = typed_values s 0 (column_values sets) >>= λ xs.
    Ok (record { exprs = xs.exprs; columns = zip (map (λ c. c.name) sets) xs.kinds })

abbrev pub typed_condition : ScopeNames → ℕ → Written → Result TypedExpr StmtStop
typed_condition s n e = of_expr (typed_predicate s n e)

-- a test, if there is one
abbrev pub typed_test : ScopeNames → ℕ → Option Written → Result TypedTest StmtStop
typed_test s n None = Ok (record { test = None; next = n })
typed_test s n (Some e) =
    typed_condition s n e >>= λ t. Ok (record { test = Some t.expr; next = t.next })

-- ---- the same, as the code keeps them

abbrev pub values_record : TypedValues → TypedArgs
values_record xs = record { exprs = xs.exprs; kinds = xs.kinds; next = xs.next }
