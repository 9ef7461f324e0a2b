-- The limits of tokens.
use Rattle.std.specs.Prelude.{ℕ}

-- the bytes of a word
abbrev pub most_word_bytes : ℕ
most_word_bytes = 64

-- the bytes of the value of a quoted text
abbrev pub most_text_bytes : ℕ
most_text_bytes = 1024

-- the largest number
abbrev pub most_number : ℕ
most_number = 9223372036854775807
