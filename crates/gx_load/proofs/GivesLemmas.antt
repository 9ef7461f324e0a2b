-- Results that are stops.
use Rattle.std.proofs.Common.{◌≡◌, Result, Ok, Err}
use Rattle.std.specs.Result.{IfOk, IsErrAnd}
use Rattle.gx_load.specs.LoadResults.{Gives}
use Rattle.gx_load.specs.declared.load_stop.LoadStop.{LoadStop}
use Rattle.gx_load.specs.declared.load_stop.LoadStop.TheVariants as load_stop

-- a stop that is the defined result
Gives-stop : {A B : Type 0} (view : A → B) (stop : LoadStop) (defined : Result B LoadStop) → defined ≡ Err stop → Gives view (Err stop) defined
Gives-stop view load_stop.NoMemory defined e = tt
Gives-stop view (load_stop.Data stop) defined e = e
Gives-stop view load_stop.TooManyRows defined e = e

-- the same if `?` carried it
pub Gives-returned : {A B : Type 0} (view : A → B) (result : Result A LoadStop) (stop : LoadStop) (defined : Result B LoadStop)
    → IsErrAnd result (λ e. e ≡ stop) → defined ≡ Err stop → Gives view result defined
Gives-returned view (Ok x) stop defined h e = absurd h
Gives-returned view (Err d) stop defined h e = rw h (Gives-stop view stop defined e)

-- a stop of a part that is the stop of the whole
Gives-passed : {A B C D : Type 0} (inner : A → B) (outer : C → D) (stop : LoadStop) (part : Result B LoadStop) (whole : Result D LoadStop)
    → Gives inner (Err stop) part → (part ≡ Err stop → whole ≡ Err stop) → Gives outer (Err stop) whole
Gives-passed inner outer load_stop.NoMemory part whole given up = tt
Gives-passed inner outer (load_stop.Data stop) part whole given up = up given
Gives-passed inner outer load_stop.TooManyRows part whole given up = up given

-- the same if `?` carried it
pub Gives-carried : {A B C D : Type 0} (inner : A → B) (outer : C → D) (result : Result C LoadStop) (stop : LoadStop) (part : Result B LoadStop) (whole : Result D LoadStop)
    → IsErrAnd result (λ e. e ≡ stop) → Gives inner (Err stop) part → (part ≡ Err stop → whole ≡ Err stop) → Gives outer result whole
Gives-carried inner outer (Ok x) stop part whole h given up = absurd h
Gives-carried inner outer (Err d) stop part whole h given up = rw h (Gives-passed inner outer stop part whole given up)

-- what holds of the defined result holds of the result
pub Gives-if_ok : {A B : Type 0} (view : A → B) (result : Result A LoadStop) (defined : Result B LoadStop) (P : B → Type 0)
    → Gives view result defined → ((x : B) → defined ≡ Ok x → P x) → IfOk result (λ a. P (view a))
Gives-if_ok view (Ok x) defined P given holds = holds (view x) given
Gives-if_ok view (Err stop) defined P given holds = tt
