-- The item of a list that comes after the first i.
use Rattle.std.proofs.Common.{◌≡◌, ℕ, zero, suc, ◌+◌, ◌<◌, List, [], ◌∷◌, length, drop, Some, refl, ◌∙◌, arith, add-one}
use Rattle.std.specs.Prelude.{slice_get}

pub next_of : {X : Type 0} (xs : List X) (i : ℕ) → i < length xs
    → (x : X) × (slice_get xs i ≡ Some x) × (drop i xs ≡ x ∷ drop (i + 1) xs)
next_of [] i h = absurd (omega arith)
next_of (x ∷ xs) zero h = (x, refl, refl)
next_of (x ∷ xs) (suc i) h =
    let more = next_of xs i (omega arith) in
    (more.0, more.1, rw add-one (more.2 ∙ rw add-one refl))
