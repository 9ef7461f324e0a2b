-- How a statement is refused, and what a function of the crate returns.
use Rattle.std.specs.Prelude.{◌≡◌, None, Some, Result, Ok, Err, ⊤}
use Rattle.gx_rows.specs.declared.limit_kind.LimitKind.TheVariants as limit
use Rattle.gx_types_exprs.specs.declared.expr_stop.ExprStop.{ExprStop}
use Rattle.gx_types_exprs.specs.declared.expr_stop.ExprStop.TheVariants as expr_stop
use Rattle.gx_types_exprs.specs.declared.type_kind.TypeKind.{TypeKind}
use Rattle.gx_types_clauses.specs.declared.stmt_stop.StmtStop.{StmtStop}
use Rattle.gx_types_clauses.specs.declared.stmt_stop.StmtStop.TheVariants as stop

-- a check fails that is not one of an expression
abbrev pub stmt_refusal : {A : Type 0} → TypeKind → Result A StmtStop
stmt_refusal kind = Err (stop.At None kind)

-- a refused expression refuses its statement
abbrev pub stop_of_expr : ExprStop → StmtStop
stop_of_expr (expr_stop.At expr kind) = stop.At (Some expr) kind
stop_of_expr expr_stop.Depth = stop.Limit limit.Depth
stop_of_expr expr_stop.NoMemory = stop.NoMemory

abbrev pub of_expr : {A : Type 0} → Result A ExprStop → Result A StmtStop
of_expr (Ok x) = Ok x
of_expr (Err e) = Err (stop_of_expr e)

-- exactly what is defined, unless memory ran out
abbrev pub StmtReturnsAs : {A B : Type 0} → (A → B) → Result A StmtStop → Result B StmtStop → Type 0
StmtReturnsAs view (Ok x) defined = defined ≡ Ok (view x)
StmtReturnsAs view (Err (stop.At expr kind)) defined = defined ≡ Err (stop.At expr kind)
StmtReturnsAs view (Err (stop.Limit limit)) defined = defined ≡ Err (stop.Limit limit)
StmtReturnsAs view (Err stop.NoMemory) defined = ⊤

abbrev pub StmtReturns : {A : Type 0} → Result A StmtStop → Result A StmtStop → Type 0
StmtReturns result defined = StmtReturnsAs (λ x. x) result defined
