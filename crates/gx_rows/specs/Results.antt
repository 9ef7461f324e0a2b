-- The Result monad: a step that may stop, and lists that are made of such steps.
use Rattle.std.specs.Prelude.{◌≡◌, List, [], ◌∷◌, ◌++◌, Result, Ok, Err, refl}
use Rattle.std.proofs.Common.{append_assoc}
use Rattle.std.proofs.lemmas.List.{append-nil}

-- a step, and what comes after it if it does not stop
infixl 10 ◌>>=◌
abbrev pub ◌>>=◌ : {A B E : Type 0} → Result A E → (A → Result B E) → Result B E
Ok x >>= next = next x
Err e >>= next = Err e

-- the entry of one step, and then those of the rest
abbrev pub try_cons : {A E : Type 0} → Result A E → Result (List A) E → Result (List A) E
try_cons step rest = step >>= λ x. rest >>= λ xs. Ok (x ∷ xs)

-- entries that are there already, and then those of the rest
abbrev pub try_append : {A E : Type 0} → List A → Result (List A) E → Result (List A) E
try_append front rest = rest >>= λ xs. Ok (front ++ xs)

-- a step that gives an entry moves it from the rest to the front
pub try_append-try_cons : {A E : Type 0} (front : List A) (x : A) (step : Result A E) (rest : Result (List A) E)
    → step ≡ Ok x → try_append front (try_cons step rest) ≡ try_append (front ++ x ∷ []) rest
try_append-try_cons front x step (Ok xs) e = rw (e, append_assoc) refl
try_append-try_cons front x step (Err s) e = rw e refl

-- a step that stops is the result of the whole
pub try_append-stop : {A E : Type 0} (front : List A) (s : E) (step : Result A E) (rest : Result (List A) E)
    → step ≡ Err s → try_append front (try_cons step rest) ≡ Err s
try_append-stop front s step rest e = rw e refl

-- if the rest is empty, the front is the whole
pub try_append-done : {A E : Type 0} (front : List A) (rest : Result (List A) E)
    → rest ≡ Ok [] → try_append front rest ≡ Ok front
try_append-done front rest e = rw (e, append-nil) refl
