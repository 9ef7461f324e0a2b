-- Terminals: tokens as the grammar sees them.
use Rattle.std.specs.Prelude.{◌≡◌, ℕ, Bool, true, false, List, bytes_eq, refl}
use Rattle.std.proofs.Common.{ap}
use Rattle.std.proofs.lemmas.Slice.Eq.{bytes_eq-Decides}
use Rattle.gx_syntax_tokens.specs.Symbols.{spelling, spelling-injective}
use Rattle.gx_syntax_tokens.specs.declared.symbol.Symbol.{Symbol}
use Rattle.gx_syntax_tokens.specs.declared.symbol.Symbol.TheVariants as symbols
use Rattle.gx_syntax_tokens.specs.declared.syntax_kind.SyntaxKind.{SyntaxKind}

-- a terminal
pub data Terminal : Type 0 where
  word : List ℕ → Terminal  -- a word, by its bytes
  number : ℕ → Terminal  -- a number, by its value
  quoted : List ℕ → Terminal  -- a quoted text, by its value
  symbol : Symbol → Terminal  -- a symbol

-- how the tokens of a text end
pub data Ending : Type 0 where
  eof : ℕ → Ending  -- the text ends here, in bytes from its start
  lex_error : ℕ → SyntaxKind → Ending  -- no token begins at this offset, for this reason

-- the tokens of a text, each with its offset, and how they end
pub record TokenStream : Type 0 where
  pub tokens : List (ℕ × Terminal)
  pub ending : Ending

-- whether a token is this symbol, that is, a symbol of the same spelling
abbrev pub is_symbol : Symbol → Terminal → Bool
is_symbol s (word w) = false
is_symbol s (number n) = false
is_symbol s (quoted v) = false
is_symbol s (symbol found) = bytes_eq (spelling found) (spelling s)

-- a token that passes the test is the symbol
pub is_symbol-true : (s : Symbol) (t : Terminal) → is_symbol s t ≡ true → t ≡ symbol s
is_symbol-true s (word w) is = cc
is_symbol-true s (number n) is = cc
is_symbol-true s (quoted v) is = cc
is_symbol-true s (symbol found) is =
    ap symbol (spelling-injective found s ((bytes_eq-Decides (spelling found) (spelling s)).0 is))

-- and the symbol passes it
pub is_symbol-refl : (s : Symbol) → is_symbol s (symbol s) ≡ true
is_symbol-refl s = (bytes_eq-Decides (spelling s) (spelling s)).1 refl

is_symbol-comma : (is_symbol symbols.Comma (symbol symbols.Comma) ≡ true)
    × (is_symbol symbols.Comma (symbol symbols.Colon) ≡ false)
is_symbol-comma = (refl, refl)
