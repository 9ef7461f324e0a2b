-- A refused expression refuses its statement.
use Rattle.std.proofs.Common.{◌≡◌, Result, Ok, Err, subst, sym}
use Rattle.std.specs.Prelude.{IsErrAnd}
use Rattle.gx_types_exprs.specs.Returns.{Returns}
use Rattle.gx_types_exprs.specs.declared.expr_stop.ExprStop.{ExprStop}
use Rattle.gx_types_exprs.specs.declared.expr_stop.ExprStop.TheVariants as expr_stop
use Rattle.gx_types_clauses.specs.StmtStops.{StmtReturnsAs, stop_of_expr}
use Rattle.gx_types_clauses.specs.declared.stmt_stop.StmtStop.{StmtStop}

stop-kept : {A B C : Type 0} (view : A → B) (e : ExprStop) (defined : Result C ExprStop) (whole : Result B StmtStop)
    → ((f : ExprStop) → defined ≡ Err f → whole ≡ Err (stop_of_expr f)) → Returns (Err e) defined → StmtReturnsAs view (Err (stop_of_expr e)) whole
stop-kept view (expr_stop.At n kind) defined whole then h = then (expr_stop.At n kind) h
stop-kept view expr_stop.Depth defined whole then h = then expr_stop.Depth h
stop-kept view expr_stop.NoMemory defined whole then h = tt

-- what is returned is the stop of an expression
pub stop-converted : {A B C : Type 0} (view : A → B) (r : Result A StmtStop) (e : ExprStop) (defined : Result C ExprStop) (whole : Result B StmtStop)
    → ((f : ExprStop) → defined ≡ Err f → whole ≡ Err (stop_of_expr f)) → IsErrAnd r (λ made. made ≡ stop_of_expr e) → Returns (Err e) defined → StmtReturnsAs view r whole
stop-converted view (Ok x) e defined whole then h returned = absurd h
stop-converted {A} {B} view (Err s) e defined whole then h returned =
    let P : StmtStop → Type 0 = λ made. StmtReturnsAs {A = A} {B = B} view (Err made) whole in
    subst P (sym h) (stop-kept view e defined whole then returned)
