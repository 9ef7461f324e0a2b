-- Parsers of one token: what the token must be, and the value that it stands for.
use Rattle.std.specs.Prelude.{◌≡◌, ℕ, ℤ, pos, Bool, true, false, if◌then◌else◌, Option, Some, None, List, [], ◌∷◌, bytes_eq, drop}
use Rattle.gx_syntax_tokens.specs.Terminals.{Terminal, word, number, quoted, symbol, is_symbol}
use Rattle.gx_syntax_tokens.specs.declared.symbol.Symbol.{Symbol}
use Rattle.gx_syntax_tokens.specs.TokenTexts.{terminal_of}
use Rattle.gx_syntax_tokens.specs.declared.token_value.TokenValue.{TokenValue}
use Rattle.gx_syntax_exprs.specs.Grammar.{fits_i64}

-- whether there is a next token, and it passes a test
abbrev pub is_next : (Terminal → Bool) → List Terminal → Bool
is_next test [] = false
is_next test (t ∷ ts) = test t

-- the next token, if there is one
abbrev pub Peeks : Option TokenValue → List Terminal → Type 0
Peeks None ts = ts ≡ []
Peeks (Some value) ts = ts ≡ terminal_of value ∷ drop 1 ts

-- whether a token is this word
abbrev pub is_word : List ℕ → Terminal → Bool
is_word w (word v) = bytes_eq v w
is_word w (number n) = false
is_word w (quoted s) = false
is_word w (symbol s) = false

-- a test that has no other result than that it is passed
abbrev pub unit_if : Bool → Option (Unit {0})
unit_if true = Some tt
unit_if false = None

-- this symbol, which has no value
abbrev pub expected_symbol : Symbol → Terminal → Option (Unit {0})
expected_symbol s t = unit_if (is_symbol s t)

-- this word, which has no value
abbrev pub expected_word : List ℕ → Terminal → Option (Unit {0})
expected_word w t = unit_if (is_word w t)

-- any word, as a name
abbrev pub name_value : Terminal → Option (List ℕ)
name_value (word w) = Some w
name_value (number n) = None
name_value (quoted s) = None
name_value (symbol s) = None

-- a word, by the value that it names
abbrev pub keyword_value : {A : Type 0} → (List ℕ → Option A) → Terminal → Option A
keyword_value meaning (word w) = meaning w
keyword_value meaning (number n) = None
keyword_value meaning (quoted s) = None
keyword_value meaning (symbol s) = None

-- a quoted text
abbrev pub quoted_value : Terminal → Option (List ℕ)
quoted_value (word w) = None
quoted_value (number n) = None
quoted_value (quoted s) = Some s
quoted_value (symbol s) = None

-- a number that an `i64` holds
abbrev pub number_value : Terminal → Option ℤ
number_value (word w) = None
number_value (number n) = if fits_i64 n then Some (pos n) else None
number_value (quoted s) = None
number_value (symbol s) = None
