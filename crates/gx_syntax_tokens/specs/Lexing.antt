-- How a text falls into tokens.
use Rattle.std.specs.Prelude.{◌≡◌, ℕ, zero, suc, ◌+◌, ◌-◌, nat_le, Bool, false, not, ◌==◌, ◌||◌, ◌&&◌, if◌then◌else◌, List, [], ◌∷◌, length, drop, take, take_while, Option, None, Some, Result, Ok, Err, slice_index, codes, refl}
use Rattle.std.specs.Char.{is_ascii_alphabetic, is_ascii_alphanumeric, is_ascii_digit}
use Rattle.std.specs.List.{prefix_len}
use Rattle.std.specs.Str.Parse.{digits_value}
use Rattle.gx_syntax_tokens.specs.Limits.{most_word_bytes, most_text_bytes, most_number}
use Rattle.gx_syntax_tokens.specs.Quotes.{closing_quote, unescaped_text}
use Rattle.gx_syntax_tokens.specs.Symbols.{spelling, symbol_at}
use Rattle.gx_syntax_tokens.specs.Terminals.{Terminal, word, number, quoted, symbol, Ending, eof, lex_error, TokenStream}
use Rattle.gx_syntax_tokens.specs.declared.symbol.Symbol.{Symbol}
use Rattle.gx_syntax_tokens.specs.declared.symbol.Symbol.TheVariants as symbols
use Rattle.gx_syntax_tokens.specs.declared.syntax_kind.SyntaxKind.{SyntaxKind}
use Rattle.gx_syntax_tokens.specs.declared.syntax_kind.SyntaxKind.TheVariants.{NotToken, TextOpen, TextLong, NameLong, NumberLarge}

-- white space: space, tab, line feed, carriage return
abbrev pub is_space : ℕ → Bool
is_space c = c == 32 || c == 9 || c == 10 || c == 13

-- a byte of a word: a letter, a digit or `_`
abbrev pub is_word_byte : ℕ → Bool
is_word_byte c = is_ascii_alphanumeric c || c == 95

-- a byte of a comment: it ends before the line feed
abbrev pub is_comment_byte : ℕ → Bool
is_comment_byte c = not (c == 10)

-- the bytes of the trivia that a text begins with: one of white space, or a comment
unfoldable pub trivia_len : List ℕ → Option ℕ
trivia_len [] = None
trivia_len (c ∷ cs) =
    if is_space c then Some 1
    else if c == 35 then Some (prefix_len is_comment_byte (c ∷ cs))
    else None

-- the word that a text begins with, and its bytes
unfoldable pub word_at : List ℕ → Result (ℕ × Terminal) SyntaxKind
word_at text =
    if nat_le (prefix_len is_word_byte text) most_word_bytes
    then Ok (prefix_len is_word_byte text, word (take_while is_word_byte text))
    else Err NameLong

-- the number that a text begins with, and its bytes
unfoldable pub number_at : List ℕ → Result (ℕ × Terminal) SyntaxKind
number_at text =
    if nat_le (digits_value 10 (take_while is_ascii_digit text)) most_number
    then Ok (prefix_len is_ascii_digit text, number (digits_value 10 (take_while is_ascii_digit text)))
    else Err NumberLarge

-- the quoted text that closes at an offset after its opening quotation mark, and its bytes
abbrev pub quoted_token : List ℕ → Option ℕ → Result (ℕ × Terminal) SyntaxKind
quoted_token after None = Err TextOpen
quoted_token after (Some n) =
    if nat_le (length (unescaped_text (take n after))) most_text_bytes
    then Ok (n + 2, quoted (unescaped_text (take n after)))
    else Err TextLong

-- the quoted text that a text begins with, and its bytes
unfoldable pub quoted_at : List ℕ → Result (ℕ × Terminal) SyntaxKind
quoted_at text = quoted_token (drop 1 text) (closing_quote false (drop 1 text))

-- the token of a symbol, and its bytes
abbrev pub symbol_token : Option Symbol → Result (ℕ × Terminal) SyntaxKind
symbol_token None = Err NotToken
symbol_token (Some s) = Ok (length (spelling s), symbol s)

-- the token that a text begins with, and its bytes, or why it begins with none
unfoldable pub token_at : List ℕ → Result (ℕ × Terminal) SyntaxKind
token_at text =
    if is_ascii_alphabetic (slice_index text 0) then word_at text
    else if is_ascii_digit (slice_index text 0) then number_at text
    else if slice_index text 0 == 34 then quoted_at text
    else symbol_token (symbol_at text)

-- a token, and then the tokens after it
abbrev pub with_first : ℕ × Terminal → TokenStream → TokenStream
with_first t rest = record { tokens = t ∷ rest.tokens; ending = rest.ending }

-- no token, and how the text ends
abbrev pub empty_stream : Ending → TokenStream
empty_stream ending = record { tokens = []; ending = ending }

-- trivia is skipped; a token comes before those after it; if there is neither, the tokens end
abbrev pub stream_at : ℕ → Option ℕ → Result (ℕ × Terminal) SyntaxKind → (ℕ → TokenStream)
    → TokenStream
stream_at at (Some n) token after = after n
stream_at at None (Ok t) after = with_first (at, t.1) (after t.0)
stream_at at None (Err kind) after = empty_stream (lex_error at kind)

-- the tokens of a text that begins at an offset, and whose first n bytes are consumed already
unfoldable pub tokens_from : ℕ → ℕ → List ℕ → TokenStream
tokens_from at n [] = empty_stream (eof at)
tokens_from at (suc n) (c ∷ cs) = tokens_from (suc at) n cs
tokens_from at zero (c ∷ cs) =
    stream_at at (trivia_len (c ∷ cs)) (token_at (c ∷ cs)) (λ n. tokens_from (suc at) (n - 1) cs)

-- the bytes of the byte order mark that a text begins with
unfoldable pub bom_len : List ℕ → ℕ
bom_len [] = 0
bom_len (a ∷ []) = 0
bom_len (a ∷ b ∷ []) = 0
bom_len (a ∷ b ∷ c ∷ rest) = if a == 239 && b == 187 && c == 191 then 3 else 0

-- the tokens of a text
unfoldable pub tokens_of : List ℕ → TokenStream
tokens_of text = tokens_from 0 (bom_len text) text

-- the tokens of a text from an offset on
unfoldable pub tokens_at : List ℕ → ℕ → TokenStream
tokens_at text at = tokens_from at 0 (drop at text)

-- trivia before, between and after tokens
tokens_of-words : tokens_of (codes "ab # c\n d_1 ")
    ≡ record { tokens = (0, word (codes "ab")) ∷ (8, word (codes "d_1")) ∷ []; ending = eof 12 }
unfolding tokens_of tokens_from trivia_len token_at word_at number_at quoted_at bom_len unescaped_text
tokens_of-words = refl

-- the longest symbols
tokens_of-symbols : tokens_of (codes "a<==1")
    ≡ record {
      tokens = (0, word (codes "a")) ∷ (1, symbol symbols.LessEqual)
          ∷ (3, symbol symbols.Assign) ∷ (4, number 1) ∷ [];
      ending = eof 5;
    }
unfolding tokens_of tokens_from trivia_len token_at word_at number_at quoted_at bom_len unescaped_text
tokens_of-symbols = refl

-- a quoted text, and the first offset that begins no token
tokens_of-lex_error : tokens_of (codes "\"a#\\n\" ! x")
    ≡ record { tokens = (0, quoted (codes "a#\n")) ∷ []; ending = lex_error 7 NotToken }
unfolding tokens_of tokens_from trivia_len token_at word_at number_at quoted_at bom_len unescaped_text
tokens_of-lex_error = refl

-- one byte order mark is skipped, and counts in offsets
tokens_of-bom : tokens_of (239 ∷ 187 ∷ 191 ∷ 55 ∷ []) ≡ record { tokens = (3, number 7) ∷ []; ending = eof 4 }
unfolding tokens_of tokens_from trivia_len token_at word_at number_at quoted_at bom_len unescaped_text
tokens_of-bom = refl
