-- How large a number, a text and a list in a value may be.
use Rattle.std.specs.Prelude.{ℕ, ◌≤◌, ◌^◌, nat_lt, ℤ, pos, negsuc, Bool, List, All, length, ⊤}
use Rattle.gx_rows.specs.declared.value.Value.{Value}
use Rattle.gx_rows.specs.declared.value.Value.TheVariants as value

-- the number is one of 64 bits with a sign
abbrev pub fits_64_bits : ℤ → Bool
fits_64_bits (pos n) = nat_lt n (2 ^ 63)
fits_64_bits (negsuc n) = nat_lt n (2 ^ 63)

-- the most bytes of a text
abbrev pub MOST_TEXT_BYTES : ℕ
MOST_TEXT_BYTES = 1024

-- the most entries of a list
abbrev pub MOST_LIST_ENTRIES : ℕ
MOST_LIST_ENTRIES = 1000000

-- a text in the value has at most 1,024 bytes, and a list has at most 1,000,000 entries
abbrev pub IsBoundedValue : Value → Type 0
IsBoundedValue (value.Int number) = ⊤
IsBoundedValue (value.Text bytes) = length bytes ≤ MOST_TEXT_BYTES
IsBoundedValue (value.Bool truth) = ⊤
IsBoundedValue (value.Ids ids) = length ids ≤ MOST_LIST_ENTRIES

-- each value of the row is bounded
abbrev pub IsBoundedRow : List Value → Type 0
IsBoundedRow values = All IsBoundedValue values
