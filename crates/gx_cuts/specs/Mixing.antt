-- The hash of an identifier, as arithmetic modulo 2 ^ 64.
use Rattle.std.specs.Prelude.{◌≡◌, ℕ, ℤ, pos, negsuc, ◌*◌, ◌/◌, ◌%◌, ◌^◌, bit_xor, refl}
use Rattle.std.specs.Int.{w64, cast_unsigned}

-- a number of 64 bits, xor its upper 31 bits
abbrev pub xorshift : ℕ → ℕ
xorshift z = bit_xor z (z / 2 ^ 33)

-- the hash of x, read as its 64 bits in two's complement
unfoldable pub mix_of : ℤ → ℕ
mix_of x = xorshift (xorshift (cast_unsigned w64 x) * 0xff51afd7ed558ccd % 2 ^ 64)

pub mix_of-zero : mix_of (pos 0) ≡ 0
unfolding mix_of
mix_of-zero = refl

pub mix_of-one : mix_of (pos 1) ≡ 0xff51afd792fd5b26
unfolding mix_of
mix_of-one = refl

pub mix_of-two : mix_of (pos 2) ≡ 0xfea35fafa5fab64d
unfolding mix_of
mix_of-two = refl

pub mix_of-three : mix_of (pos 3) ≡ 0xfdf50f87b6fa21a4
unfolding mix_of
mix_of-three = refl

-- the 64 bits of a negative identifier are shifted without its sign
pub mix_of-minus_one : mix_of (negsuc 0) ≡ 0x0955399984aa9ccc
unfolding mix_of
mix_of-minus_one = refl

pub vertex_part-4 : mix_of (pos 1) % 4 ≡ 2
unfolding mix_of
vertex_part-4 = refl

pub vertex_part-64 : mix_of (pos 1) % 64 ≡ 38
unfolding mix_of
vertex_part-64 = refl
