-- The tokens that the parser takes, as terminals, and the texts of tokens.
use Rattle.std.specs.Prelude.{◌≡◌, ℕ, List, [], ◌∷◌, ◌++◌, map}
use Rattle.std.specs.Str.Parse.{digits_value}
use Rattle.gx_syntax_tokens.specs.Quotes.{unescaped_text}
use Rattle.gx_syntax_tokens.specs.Symbols.{spelling}
use Rattle.gx_syntax_tokens.specs.Terminals.{TokenStream, Terminal, word, number, quoted, symbol, Ending, eof, lex_error}
use Rattle.gx_syntax_tokens.specs.declared.token_value.TokenValue.{TokenValue}
use Rattle.gx_syntax_tokens.specs.declared.token_value.TokenValue.TheVariants as values
use Rattle.gx_syntax_tokens.specs.declared.token_value.PlacedToken.{PlacedToken}
use Rattle.gx_syntax_tokens.specs.declared.token_value.LexEnd.{LexEnd}
use Rattle.gx_syntax_tokens.specs.declared.token_value.LexEnd.TheVariants as ends
use Rattle.gx_syntax_tokens.specs.declared.token.TokenKind.{TokenKind}
use Rattle.gx_syntax_tokens.specs.declared.token.TokenKind.TheVariants as kinds

-- the terminal of a token
abbrev pub terminal_of : TokenValue → Terminal
terminal_of (values.Word w) = word w.now
terminal_of (values.Number n) = number n
terminal_of (values.Quoted raw) = quoted (unescaped_text raw.now)
terminal_of (values.Symbol s) = symbol s

-- the terminal of a token, with its offset
abbrev pub placed_of : PlacedToken → ℕ × Terminal
placed_of p = (p.start, terminal_of p.value)

-- how the tokens of a text end
abbrev pub ending_of : LexEnd → Ending
ending_of (ends.Eof offset) = eof offset
ending_of (ends.Error offset kind) = lex_error offset kind

-- the tokens of a text, from the list of them and their end
abbrev pub token_stream_of : List PlacedToken → LexEnd → TokenStream
token_stream_of tokens end = record { tokens = map placed_of tokens; ending = ending_of end }

-- a token of this kind and this text means the terminal
abbrev pub Means : TokenKind → List ℕ → Terminal → Type 0
Means kinds.Word text t = t ≡ word text
Means kinds.Number text t = t ≡ number (digits_value 10 text)
Means kinds.Quoted text t = (raw : List ℕ) × (text ≡ 34 ∷ raw ++ 34 ∷ []) × (t ≡ quoted (unescaped_text raw))
Means kinds.Symbol text t = (s : _) × (text ≡ spelling s) × (t ≡ symbol s)
