-- A text that was written up to some byte.
use Rattle.std.specs.Prelude.{◌≡◌, ◌<◌, ℕ, ⊤, List, ◌++◌, Option, None, Some, length, take}

-- known bytes grow by a prefix of a text, and not by the whole text
abbrev pub AppendsProperPrefix : Option (List ℕ) → Option (List ℕ) → List ℕ → Type 0
AppendsProperPrefix None new text = ⊤
AppendsProperPrefix (Some xs) None text = ⊥
AppendsProperPrefix (Some xs) (Some ys) text =
    (n : ℕ) × (n < length text) × (ys ≡ xs ++ take n text)
