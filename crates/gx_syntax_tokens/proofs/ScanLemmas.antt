-- The tokens that the lexer finds.
use Rattle.std.specs.Prelude.{nat_le, if◌then◌else◌, IsUtf8, IsCharBoundary, take_while}
use Rattle.std.specs.Char.{is_ascii_digit}
use Rattle.std.specs.List.{prefix_len}
use Rattle.std.specs.Str.{all_ascii_digits}
use Rattle.std.specs.Str.Parse.{ParsesUnsigned, digits_value}
use Rattle.std.proofs.Common.{◌≡◌, ◌+◌, ◌-◌, ◌<◌, ◌≤◌, ◌^◌, ℕ, Bool, true, false, cond, List, [], ◌∷◌, ◌++◌, length, get_or, drop, take, None, Some, Result, Ok, Err, Bor, refl, sym, ap, subst, ◌∙◌, arith, length-drop, length-append}
use Rattle.std.proofs.lemmas.Bool.{le-leb, lt-leb, leb-true}
use Rattle.std.proofs.lemmas.Bool.Decides.{nat_tests}
use Rattle.std.proofs.lemmas.List.{get_or-take, get_or-drop, get_or_append_left, take-take, take-append-le, drop-take, drop-drop}
use Rattle.std.proofs.Math.Seq.{take-length}
use Rattle.std.proofs.lemmas.List.Sums.{prefix_len-drop_yes, prefix_len-le-length, prefix_len_passes, take_while-cons}
use Rattle.std.proofs.lemmas.Str.{IsCharBoundary-after_ascii}
use Rattle.std.proofs.lemmas.Str.Parse.{IsNumeralModel, numerals_by_value, parse_digits, tells_all_ascii_digits}
use Rattle.gx_syntax_tokens.specs.Limits.{most_word_bytes, most_text_bytes, most_number}
use Rattle.gx_syntax_tokens.specs.Terminals.{Terminal, number, quoted}
use Rattle.gx_syntax_tokens.specs.Lexing.{trivia_len, is_word_byte, tokens_at, number_at, quoted_at, symbol_token, token_at, word_at}
use Rattle.gx_syntax_tokens.specs.Quotes.{closing_quote, unescaped_from, unescaped_text}
use Rattle.gx_syntax_tokens.specs.Scanning.{HasAsciiEnds, IsFirstFrom, IsFound, IsPrefixOf, token_kind_of}
use Rattle.gx_syntax_tokens.specs.Symbols.{spelling, symbol_at}
use Rattle.gx_syntax_tokens.specs.TokenTexts.{Means, terminal_of}
use Rattle.gx_syntax_tokens.specs.declared.token_value.TokenValue.{TokenValue}
use Rattle.gx_syntax_tokens.specs.declared.token_value.TokenValue.TheVariants as values
use Rattle.gx_syntax_tokens.specs.declared.lexer.Scanned.{Scanned}
use Rattle.gx_syntax_tokens.specs.declared.symbol.Symbol.{Symbol}
use Rattle.gx_syntax_tokens.specs.declared.syntax_kind.SyntaxKind.{SyntaxKind}
use Rattle.gx_syntax_tokens.specs.declared.syntax_kind.SyntaxKind.TheVariants.{TextOpen, TextLong, NameLong, NumberLarge}
use Rattle.gx_syntax_tokens.proofs.LexingLemmas.{tokens_at-token}
use Rattle.gx_syntax_tokens.proofs.QuoteLemmas.{closing_quote-closes}
use Rattle.gx_syntax_tokens.proofs.SymbolLemmas.{spelling-ascii, symbol_at-spelled}

-- the end of a slice that ends with an ASCII character
pub end-boundary : (text : List ℕ) (at len : ℕ) → IsUtf8 text → HasAsciiEnds text at len → IsCharBoundary text (at + len)
end-boundary text at len u e =
    let last : at + len - 1 + 1 ≡ at + len = omega (arith, e.nonempty) in
    subst (IsCharBoundary text) last (IsCharBoundary-after_ascii text (at + len - 1) u (omega (arith, e.nonempty, e.within)) e.last)

-- a run of bytes that pass a test, if only ASCII characters pass it
pub run-ends : (p : ℕ → Bool) → ((c : ℕ) → p c ≡ true → c < 128) → (text : List ℕ) (at len : ℕ) → len ≡ prefix_len p (drop at text) → at < length text
    → p (get_or text at 0) ≡ true → HasAsciiEnds text at len
run-ends p ascii text at len is within begins =
    let n = prefix_len p (drop at text) in
    let step : n ≡ 1 + prefix_len p (drop (at + 1) text) = prefix_len-drop_yes p text at 0 within begins in
    let long : n ≤ length (drop at text) = prefix_len-le-length p (drop at text) in
    let passes : p (get_or (drop at text) (n - 1) 0) ≡ true = prefix_len_passes p (drop at text) (n - 1) 0 (omega arith) in
    let offset : at + (n - 1) ≡ at + len - 1 = omega arith in
    record {
      nonempty = omega arith;
      within = omega (arith, length-drop at text);
      first = ascii _ begins;
      last = subst (λ i. get_or text i 0 < 128) offset (rw (← get_or-drop at text (n - 1) 0) (ascii _ passes));
    }

pub word_byte-ascii : (c : ℕ) → is_word_byte c ≡ true → c < 128
word_byte-ascii c h = grind (arith, nat_tests)

pub digit-ascii : (c : ℕ) → is_ascii_digit c ≡ true → c < 128
digit-ascii c h = grind (arith, nat_tests)

-- the expected token is found
found : (expected : Result (ℕ × Terminal) SyntaxKind) (text : List ℕ) (slice : Bor (List ℕ)) (len : ℕ) (value : TokenValue) → IsPrefixOf text slice.now len
    → expected ≡ Ok (len, terminal_of value) → Means (token_kind_of value) slice.now (terminal_of value) → IsFound expected text (record { text = slice; value = value })
found expected text slice len value prefix is meaning = record {
  expected_is = rw prefix.len_is is;
  slice = rw prefix.len_is prefix.slice_is;
  within = omega (arith, prefix.len_is, prefix.within);
  nonempty = omega (arith, prefix.len_is, prefix.nonempty);
  meaning = meaning;
}

pub word-found : (text : List ℕ) (w : Bor (List ℕ)) (len : ℕ) → len ≡ prefix_len is_word_byte text → len ≤ most_word_bytes → IsPrefixOf text w.now len
    → IsFound (word_at text) text (record { text = w; value = values.Word w })
unfolding word_at
word-found text w len is few prefix =
    let test : nat_le (prefix_len is_word_byte text) most_word_bytes ≡ true = le-leb _ _ (omega arith) in
    let slice : w.now ≡ take len text = prefix.slice_is in
    found _ text w len (values.Word w) prefix (rw (test, ← is, slice) refl) refl

pub word-long : (text : List ℕ) → most_word_bytes < prefix_len is_word_byte text → word_at text ≡ Err NameLong
unfolding word_at
word-long text long = rw (lt-leb _ _ long) refl

number_at-is : (text run : List ℕ) (len : ℕ) → len ≡ prefix_len is_ascii_digit text → run ≡ take len text
    → number_at text ≡ (if nat_le (digits_value 10 run) most_number then Ok (len, number (digits_value 10 run)) else Err NumberLarge)
unfolding number_at
number_at-is text run len is slice = rw (slice, is) refl

within_limit : (b : Bool) (v value : ℕ) → Some value ≡ (if b then Some v else None) → (b ≡ true) × (value ≡ v)
within_limit true v value e = (refl, cc e)
within_limit false v value e = cc e

over_limit : (b : Bool) (v : ℕ) → None ≡ (if b then Some v else None) → b ≡ false
over_limit true v e = cc e
over_limit false v e = refl

pub number-found : (text : List ℕ) (w : Bor (List ℕ)) (len value : ℕ) → len ≡ prefix_len is_ascii_digit text
    → Some value ≡ (if nat_le (digits_value 10 w.now) most_number then Some (digits_value 10 w.now) else None) → IsPrefixOf text w.now len
    → IsFound (number_at text) text (record { text = w; value = values.Number value })
number-found text w len value is read prefix =
    let k = within_limit (nat_le (digits_value 10 w.now) most_number) (digits_value 10 w.now) value read in
    found _ text w len (values.Number value) prefix (rw (number_at-is text w.now len is prefix.slice_is, k.0, k.1) refl) (ap number k.1)

pub number-large : (text w : List ℕ) (len : ℕ) → len ≡ prefix_len is_ascii_digit text → IsPrefixOf text w len
    → None ≡ (if nat_le (digits_value 10 w) most_number then Some (digits_value 10 w) else None) → number_at text ≡ Err NumberLarge
number-large text w len is prefix read = rw (number_at-is text w len is prefix.slice_is, over_limit (nat_le (digits_value 10 w) most_number) (digits_value 10 w) read) refl

-- the longest run of digits is a numeral
run-digits : (text : List ℕ) → all_ascii_digits (take_while is_ascii_digit text) ≡ true
run-digits [] = refl
run-digits (c ∷ cs) =
    rw (take_while-cons is_ascii_digit c cs) (go (is_ascii_digit c) refl (run-digits cs))
  where
    go : (b : Bool) → is_ascii_digit c ≡ b → all_ascii_digits (take_while is_ascii_digit cs) ≡ true
        → all_ascii_digits (cond b (c ∷ take_while is_ascii_digit cs) []) ≡ true
    go true is rest = rw (is, rest) refl
    go false is rest = refl

pub all_digits : (text w : List ℕ) (len : ℕ) → len ≡ prefix_len is_ascii_digit text → IsPrefixOf text w len → all_ascii_digits w ≡ true
all_digits text w len is prefix = rw (prefix.slice_is, is) (run-digits text)

digits : IsNumeralModel (λ ds. all_ascii_digits ds ≡ true) (digits_value 10)
digits = numerals_by_value (λ ds. all_ascii_digits ds ≡ true) tells_all_ascii_digits

-- digits over the range of 64 bits are over the limit
pub no_value : {E : Type 0} (ds : List ℕ) (e : E) → ParsesUnsigned 64 10 ds (Err e) → all_ascii_digits ds ≡ true → 0 < length ds
    → None ≡ (if nat_le (digits_value 10 ds) most_number then Some (digits_value 10 ds) else None)
no_value ds e h all nonempty = go (nat_le (digits_value 10 ds) most_number) refl (parse_digits digits 64 ds (Err e) h all)
  where
    go : (b : Bool) → nat_le (digits_value 10 ds) most_number ≡ b → ¬ ((0 < length ds) × (digits_value 10 ds < 2 ^ 64)) → None ≡ (if b then Some (digits_value 10 ds) else None)
    go true few large = absurd (large (nonempty, omega (arith, leb-true _ _ few)))
    go false few large = refl

pub quoted-ends : (text : List ℕ) (at n : ℕ) → at < length text → get_or text at 0 ≡ 34 → closing_quote false (drop (at + 1) text) ≡ Some n → HasAsciiEnds text at (n + 2)
quoted-ends text at n within begins is =
    let closes = closing_quote-closes false (drop (at + 1) text) n is in
    let offset : at + 1 + n ≡ at + (n + 2) - 1 = omega arith in
    let quote : get_or text (at + 1 + n) 0 ≡ 34 = sym (get_or-drop (at + 1) text n 0) ∙ closes.quote in
    record {
      nonempty = omega arith;
      within = omega (arith, closes.within, length-drop (at + 1) text);
      first = omega (arith, begins);
      last = subst (λ i. get_or text i 0 < 128) offset (omega (arith, quote));
    }

-- the first and the last byte of a quoted text
pub quoted-first : (text w : List ℕ) (at n : ℕ) → get_or text at 0 ≡ 34 → IsPrefixOf (drop at text) w (n + 2) → get_or w 0 0 ≡ 34
quoted-first text w at n begins prefix =
    let below : 0 < n + 2 = omega arith in
    let same : at + 0 ≡ at = omega arith in
    ap (λ l. get_or l 0 0) prefix.slice_is ∙ get_or-take (n + 2) (drop at text) 0 0 below ∙ get_or-drop at text 0 0 ∙ ap (λ i. get_or text i 0) same ∙ begins

pub quoted-last : (text w : List ℕ) (at n : ℕ) → closing_quote false (drop (at + 1) text) ≡ Some n → IsPrefixOf (drop at text) w (n + 2) → get_or w (length w - 1) 0 ≡ 34
quoted-last text w at n is prefix =
    let closes = closing_quote-closes false (drop (at + 1) text) n is in
    let last : length w - 1 ≡ n + 1 = omega (arith, prefix.len_is) in
    let offset : at + (n + 1) ≡ at + 1 + n = omega arith in
    let below : n + 1 < n + 2 = omega arith in
    ap (λ i. get_or w i 0) last ∙ ap (λ l. get_or l (n + 1) 0) prefix.slice_is ∙ get_or-take (n + 2) (drop at text) (n + 1) 0 below
    ∙ get_or-drop at text (n + 1) 0 ∙ ap (λ i. get_or text i 0) offset ∙ sym (get_or-drop (at + 1) text n 0) ∙ closes.quote

-- the token of a quoted text, by the text between its quotation marks
quoted_at-is : (text w raw : List ℕ) (at n : ℕ) → closing_quote false (drop (at + 1) text) ≡ Some n → IsPrefixOf (drop at text) w (n + 2) → raw ≡ take (length w - 2) (drop 1 w)
    → quoted_at (drop at text) ≡ (if nat_le (length (unescaped_from false raw)) most_text_bytes then Ok (n + 2, quoted (unescaped_from false raw)) else Err TextLong)
unfolding quoted_at unescaped_text
quoted_at-is text w raw at n is prefix slice =
    let after : drop (at + 1) text ≡ drop 1 (drop at text) = sym (drop-drop 1 at text) in
    let closing : closing_quote false (drop 1 (drop at text)) ≡ Some n = rw after at is in
    let short : length w - 2 ≡ n = omega (arith, prefix.len_is) in
    let two : n + 2 ≡ 1 + (n + 1) = omega arith in
    let inner : raw ≡ take n (drop 1 (drop at text)) =
    slice ∙ ap (λ k. take k (drop 1 w)) short ∙ ap (λ l. take n (drop 1 l)) (prefix.slice_is ∙ ap (λ k. take k (drop at text)) two)
    ∙ ap (take n) (drop-take 1 (n + 1) (drop at text)) ∙ take-take n (n + 1) (drop 1 (drop at text)) (omega arith) in
    rw (closing, inner) refl

pub quoted-found : (text : List ℕ) (at n : ℕ) (w raw : Bor (List ℕ)) → closing_quote false (drop (at + 1) text) ≡ Some n → IsPrefixOf (drop at text) w.now (n + 2)
    → raw.now ≡ take (length w.now - 2) (drop 1 w.now) → w.now ≡ 34 ∷ raw.now ++ 34 ∷ [] → length (unescaped_from false raw.now) ≤ most_text_bytes
    → IsFound (quoted_at (drop at text)) (drop at text) (record { text = w; value = values.Quoted raw })
unfolding unescaped_text
quoted-found text at n w raw is prefix slice between few =
    found _ (drop at text) w (n + 2) (values.Quoted raw) prefix (quoted_at-is text w.now raw.now at n is prefix slice ∙ rw (le-leb _ _ few) refl) (raw.now, between, refl)

pub quoted-long : (text w raw : List ℕ) (at n : ℕ) → closing_quote false (drop (at + 1) text) ≡ Some n → IsPrefixOf (drop at text) w (n + 2) → raw ≡ take (length w - 2) (drop 1 w)
    → most_text_bytes < length (unescaped_from false raw) → quoted_at (drop at text) ≡ Err TextLong
quoted-long text w raw at n is prefix slice long = quoted_at-is text w raw at n is prefix slice ∙ rw (lt-leb _ _ long) refl

pub quoted-open : (text : List ℕ) (at : ℕ) → closing_quote false (drop (at + 1) text) ≡ None → quoted_at (drop at text) ≡ Err TextOpen
unfolding quoted_at
quoted-open text at is =
    let after : drop (at + 1) text ≡ drop 1 (drop at text) = sym (drop-drop 1 at text) in
    let closing : closing_quote false (drop 1 (drop at text)) ≡ None = rw after at is in
    rw closing refl

pub symbol-ends : (text : List ℕ) (at : ℕ) (s : Symbol) → at < length text → symbol_at (drop at text) ≡ Some s → HasAsciiEnds text at (length (spelling s))
symbol-ends text at s within is =
    let sp = symbol_at-spelled (drop at text) s is in
    let ascii = spelling-ascii s in
    let n = length (spelling s) in
    let byte : (i : ℕ) → i < n → get_or (spelling s) i 0 ≡ get_or text (at + i) 0 =
    λ i h. sym (get_or_append_left (spelling s) sp.0 0 i h) ∙ ap (λ l. get_or l i 0) (sym sp.1) ∙ get_or-drop at text i 0 in
    let none : at + 0 ≡ at = omega arith in
    let last : at + (n - 1) ≡ at + n - 1 = omega (arith, ascii.nonempty) in
    record {
      nonempty = ascii.nonempty;
      within = omega (arith, ap length sp.1, length-append (spelling s) sp.0, length-drop at text);
      first = subst (λ i. get_or text i 0 < 128) none (omega (arith, byte 0 ascii.nonempty, ascii.first));
      last = subst (λ i. get_or text i 0 < 128) last (omega (arith, byte (n - 1) (omega (arith, ascii.nonempty)), ascii.last));
    }

pub symbol-found : (text : List ℕ) (w : Bor (List ℕ)) (s : Symbol) → symbol_at text ≡ Some s → IsPrefixOf text w.now (length (spelling s))
    → IsFound (symbol_token (symbol_at text)) text (record { text = w; value = values.Symbol s })
symbol-found text w s is prefix =
    let sp = symbol_at-spelled text s is in
    let n = length (spelling s) in
    let text_is : w.now ≡ spelling s = prefix.slice_is ∙ ap (take n) sp.1 ∙ take-append-le n (spelling s) sp.0 (omega arith) ∙ take-length (spelling s) in
    found _ text w n (values.Symbol s) prefix (rw is refl) (s, text_is, refl)

-- the first byte of the rest
pub first_byte : (text : List ℕ) (at : ℕ) → get_or (drop at text) 0 0 ≡ get_or text at 0
first_byte text at =
    let same : at + 0 ≡ at = omega arith in
    get_or-drop at text 0 0 ∙ ap (λ i. get_or text i 0) same

-- the first token from an offset on, after the trivia there
pub first_token : (text : List ℕ) (from at : ℕ) (f : Scanned) → tokens_at text at ≡ tokens_at text from → from ≤ at → at ≤ length text → trivia_len (drop at text) ≡ None
    → IsFound (token_at (drop at text)) (drop at text) f → IsFirstFrom text from (record { start = at; value = f.value }) f.text.now
first_token text from at f kept in_order within none is = record {
  first = sym kept ∙ tokens_at-token text at (length f.text.now) (terminal_of f.value) none is.expected_is is.nonempty is.within;
  in_order = in_order;
  within = omega (arith, is.within, length-drop at text);
  slice = is.slice;
  nonempty = is.nonempty;
  meaning = is.meaning;
}
