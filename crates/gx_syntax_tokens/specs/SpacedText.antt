-- The text of tokens: one space between two of them, unless one attaches to the other.
use Rattle.std.specs.Prelude.{◌≡◌, ℕ, Bool, true, false, ◌==◌, ◌||◌, if◌then◌else◌, List, [], ◌∷◌, ◌++◌, length, map, codes, decimal, refl}
use Rattle.gx_syntax_tokens.specs.Terminals.{Terminal, word, number, quoted, symbol, TokenStream, eof, is_symbol}
use Rattle.gx_syntax_tokens.specs.Symbols.{spelling}
use Rattle.gx_syntax_tokens.specs.Lexing.{tokens_of}
use Rattle.gx_syntax_tokens.specs.Validity.{IsValid}
use Rattle.gx_syntax_tokens.specs.declared.symbol.Symbol.TheVariants as symbols

-- a token to be written, with its role: the role decides on the space after it
pub data Piece : Type 0 where
  token : Terminal → Piece  -- any token
  sign : Piece  -- a `-` before its operand or number
  function : List ℕ → Piece  -- the name before the arguments of a call, or `ids` before its parentheses

-- the token of a piece
abbrev pub terminal : Piece → Terminal
terminal (token t) = t
terminal sign = symbol symbols.Minus
terminal (function name) = word name

-- a byte of a value, as it is written between quotation marks
abbrev pub escaped_byte : ℕ → List ℕ
escaped_byte c =
    if c == 34 then 92 ∷ 34 ∷ []
    else if c == 92 then 92 ∷ 92 ∷ []
    else if c == 10 then 92 ∷ 110 ∷ []
    else if c == 9 then 92 ∷ 116 ∷ []
    else if c == 13 then 92 ∷ 114 ∷ []
    else c ∷ []

-- a value, as it is written between quotation marks
abbrev pub escaped_text : List ℕ → List ℕ
escaped_text [] = []
escaped_text (c ∷ cs) = escaped_byte c ++ escaped_text cs

-- the text of a token
abbrev pub token_text : Terminal → List ℕ
token_text (word w) = w
token_text (number n) = decimal n
token_text (quoted s) = 34 ∷ escaped_text s ++ 34 ∷ []
token_text (symbol s) = spelling s

-- no space comes before these tokens: `,` `;` `)` `.` `:`
abbrev pub attaches_left : Terminal → Bool
attaches_left (symbol symbols.Comma) = true
attaches_left (symbol symbols.Semicolon) = true
attaches_left (symbol symbols.CloseParen) = true
attaches_left (symbol symbols.Dot) = true
attaches_left (symbol symbols.Colon) = true
attaches_left _ = false

-- no space comes after these: `(`, `.`, a sign, and a function's name before its `(`
abbrev pub attaches_right : Piece → Terminal → Bool
attaches_right (token (symbol symbols.OpenParen)) u = true
attaches_right (token (symbol symbols.Dot)) u = true
attaches_right (token _) u = false
attaches_right sign u = true
attaches_right (function name) u = is_symbol symbols.OpenParen u

-- the space between a token and the next one
abbrev pub space_between : Piece → Terminal → List ℕ
space_between p u = if attaches_left u || attaches_right p u then [] else 32 ∷ []

-- the text of tokens after another one
abbrev pub spaced_after : Piece → List Piece → List ℕ
spaced_after p [] = []
spaced_after p (q ∷ qs) = space_between p (terminal q) ++ (token_text (terminal q) ++ spaced_after q qs)

-- the text of tokens
abbrev pub spaced_text : List Piece → List ℕ
spaced_text [] = []
spaced_text (p ∷ ps) = token_text (terminal p) ++ spaced_after p ps

-- the text of lines, each of which ends with a line feed
abbrev pub lines_text : List (List Piece) → List ℕ
lines_text [] = []
lines_text (ps ∷ pss) = spaced_text ps ++ 10 ∷ lines_text pss

-- the tokens of lines
abbrev pub terminals_of_lines : List (List Piece) → List Terminal
terminals_of_lines [] = []
terminals_of_lines (ps ∷ pss) = map terminal ps ++ terminals_of_lines pss

-- tokens without their offsets
abbrev pub terminals : TokenStream → List Terminal
terminals l = map (λ p. p.1) l.tokens

-- tokens that a text may have
abbrev pub AreValid : List Piece → Type 0
AreValid [] = Unit {0}
AreValid (p ∷ ps) = IsValid (terminal p) × AreValid ps

abbrev pub AreValidLines : List (List Piece) → Type 0
AreValidLines [] = Unit {0}
AreValidLines (ps ∷ pss) = AreValid ps × AreValidLines pss

-- the same of terminals
abbrev pub AreValidTerminals : List Terminal → Type 0
AreValidTerminals [] = Unit {0}
AreValidTerminals (t ∷ ts) = IsValid t × AreValidTerminals ts

-- the text of tokens lexes to these tokens, and to its end
abbrev pub SpacedTextRoundTrips : Type 0
SpacedTextRoundTrips = (ps : List Piece) → AreValid ps
    → (terminals (tokens_of (spaced_text ps)) ≡ map terminal ps)
    × ((tokens_of (spaced_text ps)).ending ≡ eof (length (spaced_text ps)))

-- and so does the text of lines
abbrev pub LinesRoundTrip : Type 0
LinesRoundTrip = (pss : List (List Piece)) → AreValidLines pss
    → (terminals (tokens_of (lines_text pss)) ≡ terminals_of_lines pss)
    × ((tokens_of (lines_text pss)).ending ≡ eof (length (lines_text pss)))

-- a call, a sign, a column and an operation
spaced_text-call : spaced_text (function (codes "f") ∷ token (symbol symbols.OpenParen) ∷ sign
    ∷ token (word (codes "v")) ∷ token (symbol symbols.Dot) ∷ token (word (codes "x"))
    ∷ token (symbol symbols.CloseParen) ∷ token (symbol symbols.Minus) ∷ token (quoted (34 ∷ 10 ∷ [])) ∷ [])
    ≡ codes "f(-v.x) - \"\\\"\\n\""
spaced_text-call = refl

-- the tokens of any text are valid
abbrev pub LexesValidTokens : Type 0
LexesValidTokens = (text : List ℕ) → AreValidTerminals (terminals (tokens_of text))
