-- How a script is refused, and what a function of the crate returns.
use Rattle.std.specs.Prelude.{◌≡◌, ℕ, Result, Ok, Err, ⊤}
use Rattle.gx_types.specs.declared.type_stop.TypeStop.{TypeStop}
use Rattle.gx_types.specs.declared.type_stop.TypeStop.TheVariants as stop
use Rattle.gx_types_clauses.specs.declared.stmt_stop.StmtStop.{StmtStop}
use Rattle.gx_types_clauses.specs.declared.stmt_stop.StmtStop.TheVariants as stmt_stop

-- the statement of this number is refused
abbrev pub stop_at : ℕ → StmtStop → TypeStop
stop_at n (stmt_stop.At expr kind) = stop.At n expr kind
stop_at n (stmt_stop.Limit limit) = stop.Limit limit
stop_at n stmt_stop.NoMemory = stop.NoMemory

abbrev pub at_statement : {A : Type 0} → ℕ → Result A StmtStop → Result A TypeStop
at_statement n (Ok x) = Ok x
at_statement n (Err e) = Err (stop_at n e)

-- exactly what is defined, unless memory ran out
abbrev pub TypeReturns : {A : Type 0} → Result A TypeStop → Result A TypeStop → Type 0
TypeReturns (Ok x) defined = defined ≡ Ok x
TypeReturns (Err (stop.At n expr kind)) defined = defined ≡ Err (stop.At n expr kind)
TypeReturns (Err (stop.Limit limit)) defined = defined ≡ Err (stop.Limit limit)
TypeReturns (Err stop.NoMemory) defined = ⊤
