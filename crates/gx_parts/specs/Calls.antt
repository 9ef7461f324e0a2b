-- Calls of a closure at each part. The closure is given the number of the part and the part.
use Rattle.std.specs.Prelude.{◌≡◌, ℕ, List, Result, Ok, Some, slice_get, take}
use Rattle.std.specs.List.{AllZip, FoldsTo, enumerate_from}
use Rattle.gx_rows.specs.declared.no_memory.NoMemory.{NoMemory}
use denote.Ref.{Bor}

-- the closure may be called at each part
abbrev pub MayMap : {T : Type 0} → (ℕ → Bor T → Type 0) → List T → Type 0
MayMap {T} pre ts = (i : ℕ) (p : Bor T) → slice_get ts i ≡ Some p.now → pre i p

-- the closure may return this value at a numbered part
abbrev pub MapStep : {T U : Type 0} → (ℕ → Bor T → Result U NoMemory → Type 0) → ℕ × T → U → Type 0
MapStep {T} post at value = (p : Bor T) × (p.now ≡ at.1) × post at.0 p (Ok value)

-- each new part is what a step gives at the part of the same number
pub record MappedBy {A U : Type 0} (step : ℕ × A → U → Type 0) (ts : List A) (us : List U) : Type 0 where
  pub each : AllZip step (enumerate_from 0 ts) us

-- the closure may be called at each two parts of one number
abbrev pub MayZip : {T S : Type 0} → (ℕ → Bor T → Bor S → Type 0) → List T → List S → Type 0
MayZip {T} {S} pre ts ss =
    (i : ℕ) (p : Bor T) (q : Bor S) → slice_get ts i ≡ Some p.now → slice_get ss i ≡ Some q.now → pre i p q

-- the closure may return this value at two numbered parts
abbrev pub ZipStep : {T S U : Type 0} → (ℕ → Bor T → Bor S → Result U NoMemory → Type 0) → ℕ × (T × S) → U → Type 0
ZipStep {T} {S} post at value =
    (p : Bor T) × (q : Bor S) × (p.now ≡ at.1.0) × (q.now ≡ at.1.1) × post at.0 p q (Ok value)

-- the closure may return `after` for the value `before` and a numbered part
abbrev pub FoldStep : {T B : Type 0} → (B → ℕ → Bor T → Result B NoMemory → Type 0) → B → ℕ × T → B → Type 0
FoldStep {T} post before at after = (p : Bor T) × (p.now ≡ at.1) × post before at.0 p (Ok after)

-- one step at each part, from part 0 on, leads from the start to the last value
pub record FoldedBy {A B : Type 0} (step : B → ℕ × A → B → Type 0) (start : B) (ts : List A) (last : B) : Type 0 where
  pub chain : FoldsTo step start (enumerate_from 0 ts) last

-- the closure may be called at each part, with each value to which steps at the parts before it lead
abbrev pub MayFold : {T B : Type 0} → (B → ℕ → Bor T → Type 0) → (B → ℕ → Bor T → Result B NoMemory → Type 0) → B → List T → Type 0
MayFold {T} {B} pre post start ts =
    (before : B) (i : ℕ) (p : Bor T) → FoldedBy (FoldStep post) start (take i ts) before → slice_get ts i ≡ Some p.now → pre before i p
