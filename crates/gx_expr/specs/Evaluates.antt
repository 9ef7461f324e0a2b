-- What an evaluation returns: what the definition says, or that it is out of memory.
use Rattle.std.specs.Prelude.{◌≡◌, ℕ, Result, Ok, Err, ⊤}
use Rattle.std.specs.Cow.{cow_value}
use Rattle.std.specs.declared.borrow.Cow.{Cow}
use Rattle.gx_rows.specs.declared.cause.Cause.{Cause}
use Rattle.gx_rows.specs.declared.eval_stop.EvalStop.{EvalStop}
use Rattle.gx_rows.specs.declared.eval_stop.EvalStop.TheVariants as stop
use Rattle.gx_rows.specs.declared.value.Value.{Value}
use Rattle.gx_expr.specs.Evaluation.{EvalResult}

-- the value that is defined, or the fault that is defined
abbrev pub EvaluatesTo : {A : Type 0} → Result A EvalStop → Result A (Cause × ℕ) → Type 0
EvaluatesTo (Ok x) defined = defined ≡ Ok x
EvaluatesTo (Err (stop.Fault cause n)) defined = defined ≡ Err (cause, n)
EvaluatesTo (Err stop.NoMemory) defined = ⊤

-- the same of a value that may be borrowed
abbrev pub EvaluatesToCow : Result (Cow Value) EvalStop → EvalResult → Type 0
EvaluatesToCow (Ok x) defined = defined ≡ Ok (cow_value x)
EvaluatesToCow (Err (stop.Fault cause n)) defined = defined ≡ Err (cause, n)
EvaluatesToCow (Err stop.NoMemory) defined = ⊤
