-- How a text keeps its bytes.
use Rattle.std.specs.Prelude.{ℕ, ◌≤◌, List, take, string_bytes}
use Rattle.gx_rows.specs.declared.text.Chars.{Chars}
use Rattle.gx_rows.specs.declared.text.Chars.TheVariants.{Short, Long}

-- the bytes, in order
abbrev pub bytes_of : Chars → List ℕ
bytes_of (Short short) = take short.len short.bytes
bytes_of (Long chars) = string_bytes chars.value

-- the bytes of a short text are within its block
abbrev pub Fits : Chars → Type 0
Fits (Short short) = short.len ≤ 22
Fits (Long chars) = 0 ≤ 22
