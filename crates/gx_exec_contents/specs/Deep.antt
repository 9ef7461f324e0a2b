-- Functions that go back to earlier keys, by rank.
use Rattle.std.specs.Prelude.{◌≡◌, ℕ, zero, suc, ◌<◌}

-- `step` applied so many times, and `none` below that
abbrev pub deep : {K A : Type 0} → A → ((K → A) → K → A) → ℕ → K → A
deep none step zero k = none
deep none step (suc n) k = step (deep none step n) k

-- at a key, `step` as often as the key's rank asks
abbrev pub deep_at : {K A : Type 0} → A → ((K → A) → K → A) → (K → ℕ) → K → A
deep_at none step rank k = deep none step (suc (rank k)) k

-- at the keys at which `Here` holds, the two steps read alike functions alike, and only at keys of lower rank
pub record StepAlike {K A : Type 0} (step other : (K → A) → K → A) (rank : K → ℕ) (Here : K → Type 0) : Type 0 where
  pub alike : (f g : K → A) (k : K) → Here k → ((j : K) → Here j → rank j < rank k → f j ≡ g j) → step f k ≡ other g k
