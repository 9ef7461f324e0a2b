-- Internal: words of private functions, which no public contract names.
use Rattle.std.specs.Prelude.{◌≡◌, ℕ, ◌+◌, ◌-◌, ◌≤◌, ◌<◌, Bool, not, ◌==◌, ◌||◌, List, length, drop, take, slice_index, Result, Ok, Err}
use Rattle.gx_syntax_tokens.specs.Lexing.{with_first, tokens_at, empty_stream}
use Rattle.gx_syntax_tokens.specs.Terminals.{Terminal}
use Rattle.gx_syntax_tokens.specs.TokenTexts.{Means, ending_of, placed_of, terminal_of}
use Rattle.gx_syntax_tokens.specs.declared.lexer.NextToken.{NextToken}
use Rattle.gx_syntax_tokens.specs.declared.lexer.NextToken.TheVariants as nexts
use Rattle.gx_syntax_tokens.specs.declared.lexer.Scanned.{Scanned}
use Rattle.gx_syntax_tokens.specs.declared.syntax_kind.SyntaxKind.{SyntaxKind}
use Rattle.gx_syntax_tokens.specs.declared.token.TokenKind.{TokenKind}
use Rattle.gx_syntax_tokens.specs.declared.token.TokenKind.TheVariants as kinds
use Rattle.gx_syntax_tokens.specs.declared.token_value.LexEnd.{LexEnd}
use Rattle.gx_syntax_tokens.specs.declared.token_value.LexEnd.TheVariants as ends
use Rattle.gx_syntax_tokens.specs.declared.token_value.PlacedToken.{PlacedToken}
use Rattle.gx_syntax_tokens.specs.declared.token_value.TokenValue.{TokenValue}
use Rattle.gx_syntax_tokens.specs.declared.token_value.TokenValue.TheVariants as values

-- a byte that does not begin an escape
abbrev pub is_not_backslash : ℕ → Bool
is_not_backslash c = not (c == 92)

-- a byte of a value that is written as it is
abbrev pub is_unescaped_byte : ℕ → Bool
is_unescaped_byte c = not (c == 34 || c == 92 || c == 10 || c == 9 || c == 13)

-- the kind of a token
abbrev pub token_kind_of : TokenValue → TokenKind
token_kind_of (values.Word w) = kinds.Word
token_kind_of (values.Number n) = kinds.Number
token_kind_of (values.Quoted raw) = kinds.Quoted
token_kind_of (values.Symbol s) = kinds.Symbol

-- a slice of a text, not empty, that begins and ends with an ASCII character
pub record HasAsciiEnds (text : List ℕ) (at len : ℕ) : Type 0 where
  pub nonempty : 0 < len
  pub within : at + len ≤ length text
  pub first : slice_index text at < 128
  pub last : slice_index text (at + len - 1) < 128

-- the first bytes of a text, not empty
pub record IsPrefixOf (text slice : List ℕ) (len : ℕ) : Type 0 where
  pub slice_is : slice ≡ take len text
  pub len_is : length slice ≡ len
  pub nonempty : 0 < len
  pub within : len ≤ length text

-- the expected token, with the slice of the text that it begins with
pub record IsFound (expected : Result (ℕ × Terminal) SyntaxKind) (text : List ℕ) (found : Scanned) : Type 0 where
  pub expected_is : expected ≡ Ok (length found.text.now, terminal_of found.value)
  pub slice : found.text.now ≡ take (length found.text.now) text
  pub within : length found.text.now ≤ length text
  pub nonempty : 0 < length found.text.now
  pub meaning : Means (token_kind_of found.value) found.text.now (terminal_of found.value)

-- the expected token, or why the text begins with none
abbrev pub Finds : Result (ℕ × Terminal) SyntaxKind → List ℕ → Result Scanned SyntaxKind → Type 0
Finds expected text (Ok found) = IsFound expected text found
Finds expected text (Err kind) = expected ≡ Err kind

-- the first token from an offset on, and its text
pub record IsFirstFrom (text : List ℕ) (from : ℕ) (p : PlacedToken) (lexeme : List ℕ) : Type 0 where
  pub first : tokens_at text from ≡ with_first (placed_of p) (tokens_at text (p.start + length lexeme))
  pub in_order : from ≤ p.start
  pub within : p.start + length lexeme ≤ length text
  pub slice : lexeme ≡ take (length lexeme) (drop p.start text)
  pub nonempty : 0 < length lexeme
  pub meaning : Means (token_kind_of p.value) lexeme (terminal_of p.value)

-- the end of the text, or an offset before it
abbrev pub IsEndOf : List ℕ → LexEnd → Type 0
IsEndOf text (ends.Eof offset) = offset ≡ length text
IsEndOf text (ends.Error offset kind) = offset < length text

-- the first token from an offset on, or how the tokens end
abbrev pub IsNextFrom : List ℕ → ℕ → NextToken → Type 0
IsNextFrom text from (nexts.Token p lexeme) = IsFirstFrom text from p lexeme.now
IsNextFrom text from (nexts.Ends end) = (tokens_at text from ≡ empty_stream (ending_of end)) × IsEndOf text end
