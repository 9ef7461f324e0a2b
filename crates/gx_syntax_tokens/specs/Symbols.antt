-- Symbols: how they are written, and the symbol that a text begins with.
use Rattle.std.specs.Prelude.{◌≡◌, refl, ℕ, ◌==◌, if◌then◌else◌, List, [], ◌∷◌, Option, None, Some}
use Rattle.std.proofs.Common.{ap, ◌∙◌, sym}
use Rattle.gx_syntax_tokens.specs.declared.symbol.Symbol.{Symbol}
use Rattle.gx_syntax_tokens.specs.declared.symbol.Symbol.TheVariants as symbols

-- the bytes of a symbol
abbrev pub spelling : Symbol → List ℕ
spelling symbols.OpenParen = 40 ∷ []
spelling symbols.CloseParen = 41 ∷ []
spelling symbols.Comma = 44 ∷ []
spelling symbols.Semicolon = 59 ∷ []
spelling symbols.Colon = 58 ∷ []
spelling symbols.Dot = 46 ∷ []
spelling symbols.Assign = 61 ∷ []
spelling symbols.Equal = 61 ∷ 61 ∷ []
spelling symbols.NotEqual = 33 ∷ 61 ∷ []
spelling symbols.Less = 60 ∷ []
spelling symbols.LessEqual = 60 ∷ 61 ∷ []
spelling symbols.Greater = 62 ∷ []
spelling symbols.GreaterEqual = 62 ∷ 61 ∷ []
spelling symbols.Plus = 43 ∷ []
spelling symbols.Minus = 45 ∷ []
spelling symbols.Star = 42 ∷ []
spelling symbols.Slash = 47 ∷ []
spelling symbols.Percent = 37 ∷ []

-- the symbol that is this byte alone
abbrev pub one_byte_symbol : ℕ → Option Symbol
one_byte_symbol c =
    if c == 40 then Some symbols.OpenParen
    else if c == 41 then Some symbols.CloseParen
    else if c == 44 then Some symbols.Comma
    else if c == 59 then Some symbols.Semicolon
    else if c == 58 then Some symbols.Colon
    else if c == 46 then Some symbols.Dot
    else if c == 61 then Some symbols.Assign
    else if c == 60 then Some symbols.Less
    else if c == 62 then Some symbols.Greater
    else if c == 43 then Some symbols.Plus
    else if c == 45 then Some symbols.Minus
    else if c == 42 then Some symbols.Star
    else if c == 47 then Some symbols.Slash
    else if c == 37 then Some symbols.Percent
    else None

-- the symbol that is this byte and `=`
abbrev pub symbol_with_equals : ℕ → Option Symbol
symbol_with_equals c =
    if c == 61 then Some symbols.Equal
    else if c == 33 then Some symbols.NotEqual
    else if c == 60 then Some symbols.LessEqual
    else if c == 62 then Some symbols.GreaterEqual
    else None

-- the symbol that is this byte and the next one
abbrev pub two_byte_symbol : ℕ → List ℕ → Option Symbol
two_byte_symbol c [] = None
two_byte_symbol c (d ∷ rest) = if d == 61 then symbol_with_equals c else None

-- the symbol of two bytes, or else the symbol of one
abbrev pub longest_symbol : Option Symbol → Option Symbol → Option Symbol
longest_symbol None single = single
longest_symbol (Some double) single = Some double

-- the symbol that a text begins with: the longest that fits
abbrev pub symbol_at : List ℕ → Option Symbol
symbol_at [] = None
symbol_at (c ∷ rest) = longest_symbol (two_byte_symbol c rest) (one_byte_symbol c)

-- the bytes of a symbol begin with that symbol
pub symbol_at-spelling : (s : Symbol) → symbol_at (spelling s) ≡ Some s
symbol_at-spelling symbols.OpenParen = refl
symbol_at-spelling _ = refl

-- symbols of the same spelling are the same
pub spelling-injective : (s t : Symbol) → spelling s ≡ spelling t → s ≡ t
spelling-injective s t same =
    let both : Some s ≡ Some t = sym (symbol_at-spelling s) ∙ ap symbol_at same ∙ symbol_at-spelling t in
    cc
