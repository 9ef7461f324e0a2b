-- What a function of the crate returns.
use Rattle.std.specs.Prelude.{◌≡◌, Result, Ok, Err, ⊤}
use Rattle.gx_types_exprs.specs.ExprTyping.{TypedArgs}
use Rattle.gx_types_exprs.specs.declared.expr_stop.ExprStop.{ExprStop}
use Rattle.gx_types_exprs.specs.declared.expr_stop.ExprStop.TheVariants as stop
use Rattle.gx_types_exprs.specs.declared.checked_args.CheckedArgs.{CheckedArgs}

-- exactly what is defined, unless memory ran out
abbrev pub ReturnsAs : {A B : Type 0} → (A → B) → Result A ExprStop → Result B ExprStop → Type 0
ReturnsAs view (Ok x) defined = defined ≡ Ok (view x)
ReturnsAs view (Err (stop.At expr kind)) defined = defined ≡ Err (stop.At expr kind)
ReturnsAs view (Err stop.Depth) defined = defined ≡ Err stop.Depth
ReturnsAs view (Err stop.NoMemory) defined = ⊤

abbrev pub Returns : {A : Type 0} → Result A ExprStop → Result A ExprStop → Type 0
Returns result defined = ReturnsAs (λ x. x) result defined

-- the arguments of a call, as they are defined
abbrev pub args_record : CheckedArgs → TypedArgs
args_record xs = record { exprs = xs.exprs; kinds = xs.kinds; next = xs.next }
