-- A token's text lexes to this token, if the byte after it does not lengthen it.
use Rattle.std.specs.Prelude.{◌==◌, ◌&&◌}
use Rattle.std.specs.Char.{is_ascii_alphabetic, is_ascii_digit}
use Rattle.std.specs.List.{prefix_len, take_while, list_all}
use Rattle.std.specs.Str.{all_ascii_digits}
use Rattle.std.specs.Str.Parse.{digits_value}
use Rattle.std.proofs.Common.{◌≡◌, ℕ, suc, zero, ◌<◌, ◌≤◌, ◌+◌, ◌-◌, ◌^◌, Bool, true, false, if◌then◌else◌, Some, None, Ok, List, [], ◌∷◌, ◌++◌, length, drop, take, refl, sym, ◌∙◌, ap, ◌⊎◌, ◌≢◌, inl, inr, append_assoc, length-append, arith, cond, nat_le, decimal}
use Rattle.std.proofs.lemmas.Bool.{le-leb}
use Rattle.std.proofs.lemmas.Bool.Decides.{nat_tests, eqb_tells}
use Rattle.std.proofs.lemmas.List.{drop_at}
use Rattle.std.proofs.lemmas.List.Sums.{list_all-from_AllPass}
use Rattle.std.proofs.lemmas.Fmt.{digits_decimal, digits_value-decimal, decimal_nonempty}
use Rattle.std.proofs.lemmas.Str.Parse.{IsNumeralModel, numerals_by_value, tells_all_ascii_digits}
use Rattle.std.proofs.Math.Seq.{take-append_seam}
use Rattle.gx_syntax_tokens.specs.Limits.{most_word_bytes, most_text_bytes, most_number}
use Rattle.gx_syntax_tokens.specs.Terminals.{Terminal, word, number, quoted, symbol}
use Rattle.gx_syntax_tokens.specs.Symbols.{spelling, two_byte_symbol, symbol_with_equals}
use Rattle.gx_syntax_tokens.specs.Quotes.{closing_quote, unescaped_from, unescaped_text}
use Rattle.gx_syntax_tokens.specs.Lexing.{with_first, trivia_len, is_space, is_word_byte, tokens_from, quoted_at, token_at, word_at, number_at}
use Rattle.gx_syntax_tokens.specs.Validity.{IsWord, IsValid}
use Rattle.gx_syntax_tokens.specs.SpacedText.{escaped_byte, escaped_text, token_text}
use Rattle.gx_syntax_tokens.specs.declared.symbol.Symbol.{Symbol}
use Rattle.gx_syntax_tokens.specs.declared.symbol.Symbol.TheVariants as symbols
use Rattle.gx_syntax_tokens.proofs.LexingLemmas.{tokens_from-drop}

-- the text does not begin with a byte that passes
abbrev pub Stops : (ℕ → Bool) → List ℕ → Type 0
Stops p [] = Unit {0}
Stops p (c ∷ cs) = p c ≡ false

-- the symbols that `=` lengthens
abbrev takes_equals : Symbol → Bool
takes_equals symbols.Assign = true
takes_equals symbols.Less = true
takes_equals symbols.Greater = true
takes_equals _ = false

-- the bytes that lengthen a token
abbrev pub lengthens : Terminal → ℕ → Bool
lengthens (word w) c = is_word_byte c
lengthens (number n) c = is_ascii_digit c
lengthens (quoted s) c = false
lengthens (symbol s) c = (c == 61) && takes_equals s

-- runs of bytes
run-len : (p : ℕ → Bool) (xs rest : List ℕ) → list_all p xs ≡ true → Stops p rest → prefix_len p (xs ++ rest) ≡ length xs
run-len p [] [] a s = refl
run-len p [] (c ∷ cs) a s = rw s refl
run-len p (x ∷ xs) rest a s = go (p x) (list_all p xs) refl refl a (λ f. run-len p xs rest f s)
  where
    go : (b d : Bool) → p x ≡ b → list_all p xs ≡ d → (b && d) ≡ true → (list_all p xs ≡ true → prefix_len p (xs ++ rest) ≡ length xs) → cond (p x) (1 + prefix_len p (xs ++ rest)) 0 ≡ suc (length xs)
    go true true e f h more = rw (e, more f) (omega arith)
    go true false e f h more = cc
    go false true e f h more = cc
    go false false e f h more = cc

run-take : (p : ℕ → Bool) (xs rest : List ℕ) → list_all p xs ≡ true → Stops p rest → take_while p (xs ++ rest) ≡ xs
run-take p xs rest a s = ap (λ n. take n (xs ++ rest)) (run-len p xs rest a s) ∙ take-append_seam xs rest

-- words
letter-kinds : (c : ℕ) → is_ascii_alphabetic c ≡ true → (is_space c ≡ false) × ((c == 35) ≡ false)
letter-kinds c h = (grind (arith, nat_tests), grind (arith, nat_tests))

digit-kinds : (c : ℕ) → is_ascii_digit c ≡ true → (is_ascii_alphabetic c ≡ false) × (is_space c ≡ false) × ((c == 35) ≡ false)
digit-kinds c h = (grind (arith, nat_tests), grind (arith, nat_tests), grind (arith, nat_tests))

-- a text begins with this token, of so many bytes
record Begins (t : Terminal) (text : List ℕ) (len : ℕ) : Type 0 where
  no_trivia : trivia_len text ≡ None
  token : token_at text ≡ Ok (len, t)
  nonempty : 0 < len

word-begins : (w rest : List ℕ) → IsWord w → Stops is_word_byte rest → Begins (word w) (w ++ rest) (length w)
unfolding trivia_len token_at word_at
word-begins [] rest p s = let lie : false ≡ true = p.begins_with_letter in cc
word-begins (c ∷ cs) rest p s =
    let letter : is_ascii_alphabetic c ≡ true = p.begins_with_letter in
    let all : list_all is_word_byte (c ∷ cs) ≡ true = list_all-from_AllPass is_word_byte (c ∷ cs) p.word_bytes in
    let kinds = letter-kinds c letter in
    let few : nat_le (length (c ∷ cs)) most_word_bytes ≡ true = le-leb _ _ p.within_limit in
    record {
      no_trivia = rw (kinds.0, kinds.1) refl;
      token = rw (letter, run-take is_word_byte (c ∷ cs) rest all s, run-len is_word_byte (c ∷ cs) rest all s, few) refl;
      nonempty = omega arith;
    }

-- numbers
pub own : IsNumeralModel (λ ds. all_ascii_digits ds ≡ true) (digits_value 10)
own = numerals_by_value _ tells_all_ascii_digits

digits-all : (ds : List ℕ) → all_ascii_digits ds ≡ list_all is_ascii_digit ds
digits-all [] = refl
digits-all (c ∷ cs) = ap (λ b. is_ascii_digit c && b) (digits-all cs)

pub first_of : (a b : Bool) → (a && b) ≡ true → a ≡ true
first_of true b h = refl
first_of false b h = cc

number-read : (ds rest : List ℕ) (n : ℕ) → list_all is_ascii_digit ds ≡ true → digits_value 10 ds ≡ n → n ≤ most_number → Stops is_ascii_digit rest → number_at (ds ++ rest) ≡ Ok (length ds, number n)
unfolding number_at
number-read ds rest n a v m s =
    let few : nat_le n most_number ≡ true = le-leb _ _ m in
    rw (run-take is_ascii_digit ds rest a s, run-len is_ascii_digit ds rest a s, v, few) refl

digits-begin : (ds rest : List ℕ) (n : ℕ) → 0 < length ds → all_ascii_digits ds ≡ true → digits_value 10 ds ≡ n → n ≤ most_number → Stops is_ascii_digit rest → Begins (number n) (ds ++ rest) (length ds)
unfolding trivia_len token_at
digits-begin [] rest n nonempty a v m s = absurd (omega arith)
digits-begin (c ∷ cs) rest n nonempty a v m s =
    let digit : is_ascii_digit c ≡ true = first_of (is_ascii_digit c) (all_ascii_digits cs) a in
    let all : list_all is_ascii_digit (c ∷ cs) ≡ true = sym (digits-all (c ∷ cs)) ∙ a in
    let kinds = digit-kinds c digit in
    record {
      no_trivia = rw (kinds.1, kinds.2) refl;
      token = rw (kinds.0, digit) (number-read (c ∷ cs) rest n all v m s);
      nonempty = omega arith;
    }

number-begins : (n : ℕ) (rest : List ℕ) → n ≤ most_number → Stops is_ascii_digit rest → Begins (number n) (decimal n ++ rest) (length (decimal n))
number-begins n rest m s =
    let small : n < 2 ^ 64 = omega arith in
    digits-begin (decimal n) rest n (decimal_nonempty n small) (digits_decimal own n small) (digits_value-decimal own n small) m s

-- quoted texts
abbrev past : List ℕ → ℕ → ℕ
past [] n = n
past (x ∷ xs) n = suc (past xs n)

past-is : (xs : List ℕ) (n : ℕ) → past xs n ≡ length xs + n
past-is [] n = omega arith
past-is (x ∷ xs) n = omega (arith, past-is xs n)

-- the bytes of a byte of a value close no text, and have that byte as their value
record Escapes (c : ℕ) (cs : List ℕ) : Type 0 where
  closing : (n : ℕ) → closing_quote false cs ≡ Some n → closing_quote false (escaped_byte c ++ cs) ≡ Some (past (escaped_byte c) n)
  value : unescaped_from false (escaped_byte c ++ cs) ≡ c ∷ unescaped_from false cs

byte-plain : (c : ℕ) (cs : List ℕ) → (c == 34) ≡ false → (c == 92) ≡ false → (c == 10) ≡ false → (c == 9) ≡ false → (c == 13) ≡ false → Escapes c cs
byte-plain c cs a b d e f = record { closing = λ n h. rw (a, b, d, e, f, a, b, d, f, h) refl; value = rw (a, b, d, e, f, b) refl }

byte-escapes : (c : ℕ) (cs : List ℕ) → Escapes c cs
byte-escapes c cs = go (eqb_tells c 34) (eqb_tells c 92) (eqb_tells c 10) (eqb_tells c 9) (eqb_tells c 13)
  where
    go : (((c == 34) ≡ true) × (c ≡ 34)) ⊎ (((c == 34) ≡ false) × (c ≢ 34)) → (((c == 92) ≡ true) × (c ≡ 92)) ⊎ (((c == 92) ≡ false) × (c ≢ 92))
        → (((c == 10) ≡ true) × (c ≡ 10)) ⊎ (((c == 10) ≡ false) × (c ≢ 10)) → (((c == 9) ≡ true) × (c ≡ 9)) ⊎ (((c == 9) ≡ false) × (c ≢ 9))
        → (((c == 13) ≡ true) × (c ≡ 13)) ⊎ (((c == 13) ≡ false) × (c ≢ 13)) → Escapes c cs
    go (inl a) b d e f = rw a.1 (record { closing = λ n h. rw h refl; value = refl })
    go (inr a) (inl b) d e f = rw b.1 (record { closing = λ n h. rw h refl; value = refl })
    go (inr a) (inr b) (inl d) e f = rw d.1 (record { closing = λ n h. rw h refl; value = refl })
    go (inr a) (inr b) (inr d) (inl e) f = rw e.1 (record { closing = λ n h. rw h refl; value = refl })
    go (inr a) (inr b) (inr d) (inr e) (inl f) = rw f.1 (record { closing = λ n h. rw h refl; value = refl })
    go (inr a) (inr b) (inr d) (inr e) (inr f) = byte-plain c cs a.0 b.0 d.0 e.0 f.0

escaped_text-closes : (s rest : List ℕ) → closing_quote false (escaped_text s ++ 34 ∷ rest) ≡ Some (length (escaped_text s))
escaped_text-closes [] rest = refl
escaped_text-closes (c ∷ cs) rest =
    let bytes : past (escaped_byte c) (length (escaped_text cs)) ≡ length (escaped_text (c ∷ cs)) = omega (arith, past-is (escaped_byte c) (length (escaped_text cs)), length-append (escaped_byte c) (escaped_text cs)) in
    rw (append_assoc (escaped_byte c) (escaped_text cs) (34 ∷ rest), (byte-escapes c (escaped_text cs ++ 34 ∷ rest)).closing (length (escaped_text cs)) (escaped_text-closes cs rest), bytes) refl

unescaped-escaped : (s : List ℕ) → unescaped_from false (escaped_text s) ≡ s
unescaped-escaped [] = refl
unescaped-escaped (c ∷ cs) = (byte-escapes c (escaped_text cs)).value ∙ ap (λ l. c ∷ l) (unescaped-escaped cs)

quoted-begins : (s rest : List ℕ) → length s ≤ most_text_bytes → Begins (quoted s) ((34 ∷ escaped_text s ++ 34 ∷ []) ++ rest) (length (34 ∷ escaped_text s ++ 34 ∷ []))
unfolding trivia_len token_at quoted_at unescaped_text
quoted-begins s rest m =
    let few : nat_le (length s) most_text_bytes ≡ true = le-leb _ _ m in
    let bytes : length (34 ∷ escaped_text s ++ 34 ∷ []) ≡ length (escaped_text s) + 2 = omega (arith, length-append (escaped_text s) (34 ∷ [])) in
    let raw : take (length (escaped_text s)) (escaped_text s ++ 34 ∷ rest) ≡ escaped_text s = take-append_seam (escaped_text s) (34 ∷ rest) in
    record {
      no_trivia = refl;
      token = rw (append_assoc (escaped_text s) (34 ∷ []) rest, escaped_text-closes s rest, raw, unescaped-escaped s, few, bytes) refl;
      nonempty = omega arith;
    }

-- symbols
lone : (c : ℕ) (rest : List ℕ) → symbol_with_equals c ≡ None → two_byte_symbol c rest ≡ None
lone c [] h = refl
lone c (d ∷ ds) h = go (d == 61)
  where
    go : (b : Bool) → (if b then symbol_with_equals c else None) ≡ None
    go true = h
    go false = refl

and_true : (b : Bool) → (b && true) ≡ false → b ≡ false
and_true true h = cc
and_true false h = refl

pub and_false : (b : Bool) → (b && false) ≡ false
and_false true = refl
and_false false = refl

unequal : (c : ℕ) (rest : List ℕ) → Stops (λ d. (d == 61) && true) rest → two_byte_symbol c rest ≡ None
unequal c [] s = refl
unequal c (d ∷ ds) s = rw (and_true (d == 61) s) refl

symbol-begins : (s : Symbol) (rest : List ℕ) → Stops (lengthens (symbol s)) rest → Begins (symbol s) (spelling s ++ rest) (length (spelling s))
unfolding trivia_len token_at
symbol-begins symbols.Equal rest h = record { no_trivia = refl; token = refl; nonempty = omega arith }
symbol-begins symbols.NotEqual rest h = record { no_trivia = refl; token = refl; nonempty = omega arith }
symbol-begins symbols.LessEqual rest h = record { no_trivia = refl; token = refl; nonempty = omega arith }
symbol-begins symbols.GreaterEqual rest h = record { no_trivia = refl; token = refl; nonempty = omega arith }
symbol-begins symbols.Assign rest h = record { no_trivia = refl; token = rw (unequal 61 rest h) refl; nonempty = omega arith }
symbol-begins symbols.Less rest h = record { no_trivia = refl; token = rw (unequal 60 rest h) refl; nonempty = omega arith }
symbol-begins symbols.Greater rest h = record { no_trivia = refl; token = rw (unequal 62 rest h) refl; nonempty = omega arith }
symbol-begins symbols.OpenParen rest h = record { no_trivia = refl; token = rw (lone 40 rest refl) refl; nonempty = omega arith }
symbol-begins symbols.CloseParen rest h = record { no_trivia = refl; token = rw (lone 41 rest refl) refl; nonempty = omega arith }
symbol-begins symbols.Comma rest h = record { no_trivia = refl; token = rw (lone 44 rest refl) refl; nonempty = omega arith }
symbol-begins symbols.Semicolon rest h = record { no_trivia = refl; token = rw (lone 59 rest refl) refl; nonempty = omega arith }
symbol-begins symbols.Colon rest h = record { no_trivia = refl; token = rw (lone 58 rest refl) refl; nonempty = omega arith }
symbol-begins symbols.Dot rest h = record { no_trivia = refl; token = rw (lone 46 rest refl) refl; nonempty = omega arith }
symbol-begins symbols.Plus rest h = record { no_trivia = refl; token = rw (lone 43 rest refl) refl; nonempty = omega arith }
symbol-begins symbols.Minus rest h = record { no_trivia = refl; token = rw (lone 45 rest refl) refl; nonempty = omega arith }
symbol-begins symbols.Star rest h = record { no_trivia = refl; token = rw (lone 42 rest refl) refl; nonempty = omega arith }
symbol-begins symbols.Slash rest h = record { no_trivia = refl; token = rw (lone 47 rest refl) refl; nonempty = omega arith }
symbol-begins symbols.Percent rest h = record { no_trivia = refl; token = rw (lone 37 rest refl) refl; nonempty = omega arith }

-- the text of a token begins with it
begins : (t : Terminal) (rest : List ℕ) → IsValid t → Stops (lengthens t) rest → Begins t (token_text t ++ rest) (length (token_text t))
begins (word w) rest p s = word-begins w rest p s
begins (number n) rest p s = number-begins n rest p s
begins (quoted v) rest p s = quoted-begins v rest p
begins (symbol c) rest p s = symbol-begins c rest s

token-first : (at n : ℕ) (t : Terminal) (text : List ℕ) → Begins t text n → n ≤ length text → tokens_from at 0 text ≡ with_first (at, t) (tokens_from (at + n) 0 (drop n text))
unfolding tokens_from
token-first at zero t text b h = absurd (omega (arith, b.nonempty))
token-first at (suc n) t [] b h = absurd (omega arith)
token-first at (suc n) t (c ∷ cs) b h =
    let less : suc n - 1 ≡ n = omega arith in
    let place : suc at + n ≡ at + suc n = omega arith in
    rw (b.no_trivia, b.token, less, tokens_from-drop (suc at) n cs (omega arith), place) refl

pub token_text-first : (at : ℕ) (t : Terminal) (rest : List ℕ) → IsValid t → Stops (lengthens t) rest → tokens_from at 0 (token_text t ++ rest) ≡ with_first (at, t) (tokens_from (at + length (token_text t)) 0 rest)
token_text-first at t rest p s =
    let short : length (token_text t) ≤ length (token_text t ++ rest) = omega (arith, length-append (token_text t) rest) in
    token-first at (length (token_text t)) t (token_text t ++ rest) (begins t rest p s) short
    ∙ ap (λ r. with_first (at, t) (tokens_from (at + length (token_text t)) 0 r)) (drop_at (token_text t) rest (length (token_text t)) refl)
