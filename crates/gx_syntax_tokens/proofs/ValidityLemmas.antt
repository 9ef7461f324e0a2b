-- The tokens of a text are within the limits.
use Rattle.std.specs.Prelude.{◌==◌, nat_le, if◌then◌else◌, slice_index, take_while, All}
use Rattle.std.specs.Char.{is_ascii_alphabetic, is_ascii_digit}
use Rattle.std.specs.List.{prefix_len}
use Rattle.std.specs.Str.Parse.{digits_value}
use Rattle.std.proofs.Common.{◌≡◌, ◌+◌, ◌-◌, ◌<◌, ◌≤◌, ℕ, zero, suc, Bool, true, false, List, [], ◌∷◌, length, drop, take, map, Option, None, Some, Result, Ok, Err, refl, sym, ap, subst, ◌∙◌, arith}
use Rattle.std.proofs.lemmas.Bool.{leb-true}
use Rattle.std.proofs.lemmas.Bool.Decides.{nat_tests}
use Rattle.std.proofs.lemmas.List.{get_or-map, get_or-take, length-map}
use Rattle.std.proofs.lemmas.List.Elements.{All-cons, All-nil}
use Rattle.std.proofs.lemmas.List.Folds.{length-prefix_len}
use Rattle.std.proofs.lemmas.List.Sums.{prefix_len_passes, take_while-cons}
use Rattle.gx_syntax_tokens.specs.Limits.{most_word_bytes, most_text_bytes, most_number}
use Rattle.gx_syntax_tokens.specs.Lexing.{trivia_len, is_word_byte, tokens_of, tokens_from, quoted_token, bom_len, number_at, quoted_at, stream_at, symbol_token, token_at, word_at}
use Rattle.gx_syntax_tokens.specs.Validity.{IsValid, IsWord}
use Rattle.gx_syntax_tokens.specs.Quotes.{closing_quote, unescaped_text}
use Rattle.gx_syntax_tokens.specs.SpacedText.{AreValidTerminals, LexesValidTokens}
use Rattle.gx_syntax_tokens.specs.Symbols.{symbol_at}
use Rattle.gx_syntax_tokens.specs.Terminals.{TokenStream, Terminal, word, number, quoted}
use Rattle.gx_syntax_tokens.specs.TokenTexts.{token_stream_of, placed_of, terminal_of}
use Rattle.gx_syntax_tokens.specs.declared.token_value.LexEnd.{LexEnd}
use Rattle.gx_syntax_tokens.specs.declared.token_value.PlacedToken.{PlacedToken}
use Rattle.gx_syntax_tokens.specs.declared.symbol.Symbol.{Symbol}
use Rattle.gx_syntax_tokens.specs.declared.syntax_kind.SyntaxKind.{SyntaxKind}
use Rattle.gx_syntax_tokens.specs.declared.syntax_kind.SyntaxKind.TheVariants.{TextLong, NameLong, NumberLarge}

-- the token of an equal result
same_token : (n m : ℕ) (t u : Terminal) → ◌≡◌ {A = Result (ℕ × Terminal) SyntaxKind} (Ok (n, t)) (Ok (m, u)) → t ≡ u
same_token n m t u is =
    let both : ◌≡◌ {A = ℕ × Terminal} (n, t) (m, u) = cc is in
    ap (λ (p : ℕ × Terminal). p.1) both

letter-word_byte : (c : ℕ) → is_ascii_alphabetic c ≡ true → is_word_byte c ≡ true
letter-word_byte c is = grind (arith, nat_tests)

run-word : (text : List ℕ) → is_ascii_alphabetic (slice_index text 0) ≡ true → prefix_len is_word_byte text ≤ most_word_bytes → IsWord (take_while is_word_byte text)
run-word [] letter few = let lie : false ≡ true = letter in cc
run-word (c ∷ cs) letter few =
    let n = prefix_len is_word_byte (c ∷ cs) in
    let long : length (take_while is_word_byte (c ∷ cs)) ≡ n = length-prefix_len is_word_byte (c ∷ cs) in
    let word_byte : is_word_byte c ≡ true = letter-word_byte c letter in
    let first : take_while is_word_byte (c ∷ cs) ≡ c ∷ take_while is_word_byte cs = take_while-cons is_word_byte c cs ∙ rw word_byte refl in
    record {
      begins_with_letter = subst (λ l. is_ascii_alphabetic (slice_index l 0) ≡ true) (sym first) letter;
      word_bytes = λ k d below.
          let within : k < n = omega (arith, long) in
          ap is_word_byte (get_or-take n (c ∷ cs) k d within) ∙ prefix_len_passes is_word_byte (c ∷ cs) k d within;
      within_limit = omega (arith, long);
    }

-- the test that an answer within_limit, and its token
within_limit : (b : Bool) (m n : ℕ) (u t : Terminal) (kind : SyntaxKind)
    → ◌≡◌ {A = Result (ℕ × Terminal) SyntaxKind} (if◌then◌else◌ {A = Result (ℕ × Terminal) SyntaxKind} b (Ok (m, u)) (Err kind)) (Ok (n, t)) → (b ≡ true) × (u ≡ t)
within_limit true m n u t kind is = (refl, same_token m n u t is)
within_limit false m n u t kind is = cc is

word-valid : (text : List ℕ) (n : ℕ) (t : Terminal) → is_ascii_alphabetic (slice_index text 0) ≡ true → word_at text ≡ Ok (n, t) → IsValid t
unfolding word_at
word-valid text n t letter is =
    let size = prefix_len is_word_byte text in
    let k = within_limit (nat_le size most_word_bytes) size n (word (take_while is_word_byte text)) t NameLong is in
    subst IsValid k.1 (run-word text letter (leb-true _ _ k.0))

number-valid : (text : List ℕ) (n : ℕ) (t : Terminal) → number_at text ≡ Ok (n, t) → IsValid t
unfolding number_at
number-valid text n t is =
    let value = digits_value 10 (take_while is_ascii_digit text) in
    let k = within_limit (nat_le value most_number) (prefix_len is_ascii_digit text) n (number value) t NumberLarge is in
    subst IsValid k.1 (leb-true _ _ k.0)

quoted_token-valid : (after : List ℕ) (o : Option ℕ) (n : ℕ) (t : Terminal) → quoted_token after o ≡ Ok (n, t) → IsValid t
quoted_token-valid after None n t is = cc is
quoted_token-valid after (Some m) n t is =
    let value = unescaped_text (take m after) in
    let k = within_limit (nat_le (length value) most_text_bytes) (m + 2) n (quoted value) t TextLong is in
    subst IsValid k.1 (leb-true _ _ k.0)

quoted-valid : (text : List ℕ) (n : ℕ) (t : Terminal) → quoted_at text ≡ Ok (n, t) → IsValid t
unfolding quoted_at
quoted-valid text n t is = quoted_token-valid (drop 1 text) (closing_quote false (drop 1 text)) n t is

symbol_token-valid : (o : Option Symbol) (n : ℕ) (t : Terminal) → symbol_token o ≡ Ok (n, t) → IsValid t
symbol_token-valid None n t is = cc is
symbol_token-valid (Some s) n t is = subst IsValid (same_token _ n _ t is) tt

pub token_at-valid : (text : List ℕ) (n : ℕ) (t : Terminal) → token_at text ≡ Ok (n, t) → IsValid t
unfolding token_at
token_at-valid text n t is = go (is_ascii_alphabetic (slice_index text 0)) (is_ascii_digit (slice_index text 0)) (slice_index text 0 == 34) refl is
  where
    go : (a b d : Bool) → is_ascii_alphabetic (slice_index text 0) ≡ a
        → (if a then word_at text else if b then number_at text else if d then quoted_at text else symbol_token (symbol_at text)) ≡ Ok (n, t) → IsValid t
    go true b d letter e = word-valid text n t letter e
    go false true d letter e = number-valid text n t e
    go false false true letter e = quoted-valid text n t e
    go false false false letter e = symbol_token-valid (symbol_at text) n t e

abbrev AllValid : List (ℕ × Terminal) → Type 0
AllValid tokens = All (λ (p : ℕ × Terminal). IsValid p.1) tokens

stream_at-valid : (at : ℕ) (trivia : Option ℕ) (token : Result (ℕ × Terminal) SyntaxKind) (next : ℕ → TokenStream) → ((n : ℕ) (t : Terminal) → token ≡ Ok (n, t) → IsValid t)
    → ((n : ℕ) → AllValid (next n).tokens) → AllValid (stream_at at trivia token next).tokens
stream_at-valid at (Some n) token next valid rest = rest n
stream_at-valid at None (Ok t) next valid rest = All-cons (λ (p : ℕ × Terminal). IsValid p.1) (at, t.1) (next t.0).tokens (valid t.0 t.1 refl) (rest t.0)
stream_at-valid at None (Err kind) next valid rest = All-nil (λ (p : ℕ × Terminal). IsValid p.1)

tokens_from-valid : (at n : ℕ) (text : List ℕ) → AllValid (tokens_from at n text).tokens
unfolding tokens_from
tokens_from-valid at n [] = All-nil (λ (p : ℕ × Terminal). IsValid p.1)
tokens_from-valid at (suc n) (c ∷ cs) = tokens_from-valid (suc at) n cs
tokens_from-valid at zero (c ∷ cs) =
    stream_at-valid at (trivia_len (c ∷ cs)) (token_at (c ∷ cs)) (λ n. tokens_from (suc at) (n - 1) cs) (token_at-valid (c ∷ cs)) (λ n. tokens_from-valid (suc at) (n - 1) cs)

-- each token of a text is valid
pub tokens_of-valid : (text : List ℕ) → All (λ (p : ℕ × Terminal). IsValid p.1) (tokens_of text).tokens
unfolding tokens_of
tokens_of-valid text = tokens_from-valid 0 (bom_len text) text

-- and so is each token of its list
pub placed-valid : (tokens : List PlacedToken) (end : LexEnd) (text : List ℕ) → token_stream_of tokens end ≡ tokens_of text → All (λ (p : PlacedToken). IsValid (terminal_of p.value)) tokens
placed-valid tokens end text is k d below =
    let all : AllValid (map placed_of tokens) = subst AllValid (sym (ap (λ (x : TokenStream). x.tokens) is)) (tokens_of-valid text) in
    let here = all k (placed_of d) (omega (arith, length-map tokens placed_of)) in
    subst (λ (p : ℕ × Terminal). IsValid p.1) (get_or-map placed_of tokens k d (placed_of d) below) here

all-terminals : (ps : List (ℕ × Terminal)) → AllValid ps → AreValidTerminals (map (λ (p : ℕ × Terminal). p.1) ps)
all-terminals [] all = tt
all-terminals (p ∷ ps) all = (all 0 p (omega arith), all-terminals ps (λ k d below. all (suc k) d (omega (arith, below))))

pub lexes_valid_tokens : LexesValidTokens
lexes_valid_tokens text = all-terminals (tokens_of text).tokens (tokens_of-valid text)
