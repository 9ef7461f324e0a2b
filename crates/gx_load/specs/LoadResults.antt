-- The result of loading, beside the result that is defined.
use Rattle.std.specs.Prelude.{◌≡◌, Result, Ok, Err, ⊤}
use Rattle.gx_load.specs.declared.cell_value.CellStop.{CellStop}
use Rattle.gx_load.specs.declared.cell_value.CellStop.TheVariants as cell_stop
use Rattle.gx_load.specs.declared.load_stop.CellKind.{CellKind}
use Rattle.gx_load.specs.declared.load_stop.LoadStop.{LoadStop}
use Rattle.gx_load.specs.declared.load_stop.LoadStop.TheVariants as load_stop

-- the result, seen by `view`, is the defined one; any call may return `NoMemory` instead
abbrev pub Gives : {A B : Type 0} → (A → B) → Result A LoadStop → Result B LoadStop → Type 0
Gives view (Ok x) defined = defined ≡ Ok (view x)
Gives view (Err load_stop.NoMemory) defined = ⊤
Gives view (Err (load_stop.Data stop)) defined = defined ≡ Err (load_stop.Data stop)
Gives view (Err load_stop.TooManyRows) defined = defined ≡ Err load_stop.TooManyRows

-- the same of what is read in one cell
abbrev pub GivesOfCell : {A B : Type 0} → (A → B) → Result A CellStop → Result B CellKind → Type 0
GivesOfCell view (Ok x) defined = defined ≡ Ok (view x)
GivesOfCell view (Err cell_stop.NoMemory) defined = ⊤
GivesOfCell view (Err (cell_stop.Refused kind)) defined = defined ≡ Err kind
