-- The tokens that a text may have.
use Rattle.std.specs.Prelude.{◌≡◌, ℕ, ◌≤◌, true, List, length, slice_index, All}
use Rattle.std.specs.Char.{is_ascii_alphabetic}
use Rattle.gx_syntax_tokens.specs.Limits.{most_word_bytes, most_text_bytes, most_number}
use Rattle.gx_syntax_tokens.specs.Lexing.{is_word_byte}
use Rattle.gx_syntax_tokens.specs.Terminals.{Terminal, word, number, quoted, symbol}

-- a letter, and then letters, digits and `_`, within the limit
pub record IsWord (text : List ℕ) : Type 0 where
  pub begins_with_letter : is_ascii_alphabetic (slice_index text 0) ≡ true
  pub word_bytes : All (λ c. is_word_byte c ≡ true) text
  pub within_limit : length text ≤ most_word_bytes

-- a word of the language, or a number or a quoted text within its limit, or any symbol
abbrev pub IsValid : Terminal → Type 0
IsValid (word text) = IsWord text
IsValid (number n) = n ≤ most_number
IsValid (quoted value) = length value ≤ most_text_bytes
IsValid (symbol s) = Unit {0}
