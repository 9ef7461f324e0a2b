-- Faults of the outside, which are counted.
use Rattle.std.specs.Prelude.{◌≡◌, ◌<◌, ◌⊎◌, ℕ, Result, OnErr}

-- the last number of a count of faults
abbrev pub LAST_COUNT : ℕ
LAST_COUNT = 18446744073709551615

-- a fault was counted between these two counts; at its last number the count cannot rise any more
abbrev pub FaultCounted : ℕ → ℕ → Type 0
FaultCounted before after = (before < after) ⊎ (after ≡ LAST_COUNT)

-- the call fails only if it counted a fault
abbrev pub HasCause : {A E : Type 0} → ℕ → ℕ → Result A E → Type 0
HasCause before after r = OnErr r (FaultCounted before after)
