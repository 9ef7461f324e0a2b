-- The partition of an edge under each cut.
use Rattle.std.specs.Prelude.{◌≡◌, ℕ, ℤ, pos, ◌+◌, ◌*◌, ◌%◌, ◌^◌, refl}
use Rattle.std.specs.Int.{w64, cast_signed, cast_unsigned, int_min, int_max}
use Rattle.gx_rows.specs.declared.cut.Cut.{Cut}
use Rattle.gx_rows.specs.declared.cut.Cut.TheVariants.{OneD, TwoD, Random, Canonical, Rows}
use Rattle.gx_cuts.specs.Mixing.{mix_of}
use Rattle.gx_cuts.specs.Sides.{grid_side, first_side}

-- the cell in the row of the source and the column of the destination; the cells of the square grid are counted row by row
abbrev pub two_d_place : ℕ → ℤ → ℤ → ℕ
two_d_place parts src dst = (mix_of src % grid_side parts * grid_side parts + mix_of dst % grid_side parts) % parts

-- the hash of the sum of the hashed source and the destination, modulo 2 ^ 64
abbrev pub random_place : ℕ → ℤ → ℤ → ℕ
random_place parts src dst = mix_of (cast_signed w64 ((mix_of src + cast_unsigned w64 dst) % 2 ^ 64)) % parts

-- the partition of the edge from src to dst at position n of its file
abbrev pub place_of : Cut → ℕ → ℤ → ℤ → ℕ → ℕ
place_of OneD parts src dst n = mix_of src % parts
place_of TwoD parts src dst n = two_d_place parts src dst
place_of Random parts src dst n = random_place parts src dst
place_of Canonical parts src dst n = random_place parts (int_min src dst) (int_max src dst)
place_of Rows parts src dst n = n % parts

pub place_of-two_d : place_of TwoD 5 (pos 2) (pos 3) 0 ≡ 3
unfolding mix_of grid_side first_side
place_of-two_d = refl
