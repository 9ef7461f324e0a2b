-- Bools as the bits of u64s.
use Rattle.std.specs.Prelude.{◌≡◌, ℕ, ◌/◌, ◌%◌, ◌^◌, ◌<◌, ◌≤◌, ◌==◌, Bool, true, false, List, [], ◌∷◌, map, length, slice_index, refl}
use Rattle.std.specs.Int.{bit_at, div_ceil}
use Rattle.std.specs.List.{range_with_len}

-- whether bit i % 64 of u64 i / 64 is 1
unfoldable pub is_set : List ℕ → ℕ → Bool
is_set us i = bit_at (slice_index us (i / 64)) (i % 64) == 1

-- the first n bits
abbrev pub bits_of : List ℕ → ℕ → List Bool
bits_of us n = map (is_set us) (range_with_len 0 n)

-- as many u64s as n bits need, and no later bit is 1
pub record HasNoStrayBits (us : List ℕ) (n : ℕ) : Type 0 where
  pub fits_u32 : n < 2 ^ 32
  pub exact_len : length us ≡ div_ceil n 64
  pub clear : (i : ℕ) → n ≤ i → is_set us i ≡ false

pub bits_of-example : bits_of (5 ∷ []) 4 ≡ true ∷ false ∷ true ∷ false ∷ []
unfolding is_set
bits_of-example = refl
