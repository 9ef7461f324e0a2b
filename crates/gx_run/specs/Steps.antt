-- The result of a step towards the actions, beside the result that is defined.
use Rattle.std.specs.Prelude.{◌≡◌, ◌⊎◌, ℕ, List, Option, None, Some, Result, Ok, Err, ⊤}
use Rattle.gx_outside.specs.Faults.{FaultCounted}
use Rattle.gx_outside.specs.Contents.{Contents}
use Rattle.gx_print.specs.declared.status.Status.{Status}
use Rattle.gx_print.specs.declared.status.Status.TheVariants as status

-- ---- a step that reads no file

-- the step refuses as it is defined to, or since memory is out
abbrev pub RefusesAs : {B : Type 0} → Status → Result B Status → Type 0
RefusesAs status.Done defined = ⊥
RefusesAs status.Usage defined = ⊥
RefusesAs (status.Script stop) defined = defined ≡ Err (status.Script stop)
RefusesAs (status.Schedule line) defined = ⊥
RefusesAs (status.Data stop) defined = defined ≡ Err (status.Data stop)
RefusesAs (status.Fault fault) defined = ⊥
RefusesAs (status.Limit kind) defined = defined ≡ Err (status.Limit kind)
RefusesAs (status.Source name) defined = ⊥
RefusesAs status.Sink defined = ⊥
RefusesAs status.NoMemory defined = ⊤

-- the result, seen by `view`, is the defined one
abbrev pub StepReturns : {A B : Type 0} → (A → B) → Result A Status → Result B Status → Type 0
StepReturns view (Ok x) defined = defined ≡ Ok (view x)
StepReturns view (Err s) defined = RefusesAs s defined

-- ---- a step that reads files

-- the step refuses as it is defined to, or for a fault that was counted, or since memory is out
abbrev pub Refuses : {B : Type 0} → Type 0 → Status → Result B Status → Type 0
Refuses counted status.Done defined = ⊥
Refuses counted status.Usage defined = ⊥
Refuses counted (status.Script stop) defined = defined ≡ Err (status.Script stop)
Refuses counted (status.Schedule line) defined = ⊥
Refuses counted (status.Data stop) defined = defined ≡ Err (status.Data stop)
Refuses counted (status.Fault fault) defined = ⊥
Refuses counted (status.Limit kind) defined = defined ≡ Err (status.Limit kind)
Refuses counted (status.Source name) defined = counted ⊎ (defined ≡ Err (status.Source name))
Refuses counted status.Sink defined = ⊥
Refuses counted status.NoMemory defined = ⊤

-- over unknown contents, the step refuses only as some contents allow
abbrev pub RefusesUnknown : Type 0 → Status → Type 0
RefusesUnknown counted status.Done = ⊥
RefusesUnknown counted status.Usage = ⊥
RefusesUnknown counted (status.Script stop) = ⊤
RefusesUnknown counted (status.Schedule line) = ⊥
RefusesUnknown counted (status.Data stop) = ⊤
RefusesUnknown counted (status.Fault fault) = ⊥
RefusesUnknown counted (status.Limit kind) = ⊤
RefusesUnknown counted (status.Source name) = counted
RefusesUnknown counted status.Sink = ⊥
RefusesUnknown counted status.NoMemory = ⊤

-- the result of the step, seen by `view`, is what is defined over the contents
abbrev pub Reads : {A B : Type 0} → Option Contents → ℕ → ℕ → (A → B) → Result A Status → (Contents → Result B Status) → Type 0
Reads None before after view (Ok x) defined = ⊤
Reads None before after view (Err s) defined = RefusesUnknown (FaultCounted before after) s
Reads (Some contents) before after view (Ok x) defined = defined contents ≡ Ok (view x)
Reads (Some contents) before after view (Err s) defined =
    Refuses (FaultCounted before after) s (defined contents)

-- ---- the name that a refusal carries

-- the name has this property, if the refusal carries one
abbrev pub NamesOnly : Status → (List ℕ → Type 0) → Type 0
NamesOnly status.Done P = ⊤
NamesOnly status.Usage P = ⊤
NamesOnly (status.Script stop) P = ⊤
NamesOnly (status.Schedule line) P = ⊤
NamesOnly (status.Data stop) P = ⊤
NamesOnly (status.Fault fault) P = ⊤
NamesOnly (status.Limit kind) P = ⊤
NamesOnly (status.Source name) P = P name
NamesOnly status.Sink P = ⊤
NamesOnly status.NoMemory P = ⊤
