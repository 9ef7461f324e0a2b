-- The side of the smallest square grid with at least as many cells as partitions.
use Rattle.std.specs.Prelude.{◌≡◌, ℕ, zero, suc, ◌+◌, ◌*◌, ◌≤◌, true, false, nat_le, refl}
use Rattle.std.proofs.Math.Nat.{le_antisymm}

-- s is the least number whose square is at least `parts`
pub record IsSide (parts s : ℕ) : Type 0 where
  pub enough : parts ≤ s * s
  pub least : (t : ℕ) → parts ≤ t * t → s ≤ t

-- there is one such number
pub IsSide-unique : (parts s t : ℕ) → IsSide parts s → IsSide parts t → s ≡ t
IsSide-unique parts s t a b = le_antisymm (a.least t b.enough) (b.least s a.enough)

-- the first of the k numbers from s on whose square is at least `parts`, or else the number after them
unfoldable pub first_side : ℕ → ℕ → ℕ → ℕ
first_side parts s zero = s
first_side parts s (suc k) = elim (nat_le parts (s * s)) [ true ↦ s | false ↦ first_side parts (s + 1) k ]

-- the least number whose square is at least `parts`
unfoldable pub grid_side : ℕ → ℕ
grid_side parts = first_side parts 0 parts

pub grid_side-four : grid_side 4 ≡ 2
unfolding grid_side first_side
grid_side-four = refl

pub grid_side-five : grid_side 5 ≡ 3
unfolding grid_side first_side
grid_side-five = refl
