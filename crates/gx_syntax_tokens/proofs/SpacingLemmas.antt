-- The text of tokens lexes to these tokens.
use Rattle.std.specs.Prelude.{◌==◌}
use Rattle.std.specs.Char.{is_ascii_alphabetic, is_ascii_digit}
use Rattle.std.specs.Str.{all_ascii_digits}
use Rattle.std.proofs.Common.{◌≡◌, ℕ, suc, get_or, ◌<◌, ◌+◌, ◌^◌, Bool, true, false, if◌then◌else◌, ◌||◌, List, [], ◌∷◌, ◌++◌, length, map, refl, sym, ◌∙◌, ap, subst, append_assoc, length-append, arith, decimal}
use Rattle.std.proofs.lemmas.Bool.{ne_eqb}
use Rattle.std.proofs.lemmas.Bool.Decides.{nat_tests}
use Rattle.std.proofs.lemmas.List.{append-nil}
use Rattle.std.proofs.lemmas.Fmt.{digits_decimal, decimal_nonempty}
use Rattle.gx_syntax_tokens.specs.Terminals.{Terminal, word, number, quoted, symbol, TokenStream, eof, is_symbol-true}
use Rattle.gx_syntax_tokens.specs.Symbols.{spelling}
use Rattle.gx_syntax_tokens.specs.Lexing.{with_first, empty_stream, trivia_len, is_space, is_word_byte, tokens_of, tokens_from, bom_len}
use Rattle.gx_syntax_tokens.specs.Validity.{IsWord, IsValid}
use Rattle.gx_syntax_tokens.specs.SpacedText.{Piece, token, sign, function, terminal, escaped_text, token_text, attaches_left, attaches_right, spaced_after, spaced_text, lines_text, terminals_of_lines, terminals, AreValid, AreValidLines, SpacedTextRoundTrips, LinesRoundTrip}
use Rattle.gx_syntax_tokens.specs.declared.symbol.Symbol.TheVariants as symbols
use Rattle.gx_syntax_tokens.proofs.ScanLemmas.{digit-ascii}
use Rattle.gx_syntax_tokens.proofs.SymbolLemmas.{spelling-ascii}
use Rattle.gx_syntax_tokens.proofs.TokenLemmas.{Stops, lengthens, token_text-first, own, first_of, and_false}

-- a byte that lengthens no token
byte_stops : (t : Terminal) (c : ℕ) (xs : List ℕ) → is_word_byte c ≡ false → is_ascii_digit c ≡ false → (c == 61) ≡ false → Stops (lengthens t) (c ∷ xs)
byte_stops (word w) c xs a b d = a
byte_stops (number n) c xs a b d = b
byte_stops (quoted v) c xs a b d = refl
byte_stops (symbol s) c xs a b d = rw d refl

none_stops : (p : ℕ → Bool) (xs : List ℕ) → ((c : ℕ) → p c ≡ false) → Stops p xs
none_stops p [] h = tt
none_stops p (c ∷ cs) h = h c

-- a token without a space before it does not lengthen the one before
left_stops : (t u : Terminal) (rest : List ℕ) → attaches_left u ≡ true → Stops (lengthens t) (token_text u ++ rest)
left_stops t (symbol symbols.Comma) rest h = byte_stops t 44 rest refl refl refl
left_stops t (symbol symbols.Semicolon) rest h = byte_stops t 59 rest refl refl refl
left_stops t (symbol symbols.CloseParen) rest h = byte_stops t 41 rest refl refl refl
left_stops t (symbol symbols.Dot) rest h = byte_stops t 46 rest refl refl refl
left_stops t (symbol symbols.Colon) rest h = byte_stops t 58 rest refl refl refl
left_stops t _ rest h = cc

right_stops : (p : Piece) (u : Terminal) (rest : List ℕ) → attaches_right p u ≡ true → Stops (lengthens (terminal p)) (token_text u ++ rest)
right_stops (token (symbol symbols.OpenParen)) u rest h = none_stops _ _ (λ c. and_false (c == 61))
right_stops (token (symbol symbols.Dot)) u rest h = none_stops _ _ (λ c. and_false (c == 61))
right_stops (token _) u rest h = cc
right_stops sign u rest h = none_stops _ _ (λ c. and_false (c == 61))
right_stops (function name) u rest h = rw (is_symbol-true symbols.OpenParen u h) refl

tight_stops : (p : Piece) (u : Terminal) (rest : List ℕ) → (attaches_left u || attaches_right p u) ≡ true → Stops (lengthens (terminal p)) (token_text u ++ rest)
tight_stops p u rest h = go (attaches_left u) (attaches_right p u) refl refl h
  where
    go : (a b : Bool) → attaches_left u ≡ a → attaches_right p u ≡ b → (a || b) ≡ true → Stops (lengthens (terminal p)) (token_text u ++ rest)
    go true b e f i = left_stops (terminal p) u rest e
    go false true e f i = right_stops p u rest f
    go false false e f i = cc

-- the text or a line ends here
abbrev LineEnds : List ℕ → Type 0
LineEnds [] = Unit {0}
LineEnds (c ∷ cs) = c ≡ 10

line_stops : (t : Terminal) (rest : List ℕ) → LineEnds rest → Stops (lengthens t) rest
line_stops t [] e = tt
line_stops t (c ∷ cs) e = subst (λ d. Stops (lengthens t) (d ∷ cs)) (sym e) (byte_stops t 10 cs refl refl refl)

stops_after : (p : Piece) (ps : List Piece) (rest : List ℕ) → LineEnds rest → Stops (lengthens (terminal p)) (spaced_after p ps ++ rest)
stops_after p [] rest e = line_stops (terminal p) rest e
stops_after p (q ∷ qs) rest e = go (attaches_left (terminal q) || attaches_right p (terminal q)) refl
  where
    go : (b : Bool) → (attaches_left (terminal q) || attaches_right p (terminal q)) ≡ b → Stops (lengthens (terminal p)) (((if b then [] else 32 ∷ []) ++ (token_text (terminal q) ++ spaced_after q qs)) ++ rest)
    go true h = subst (Stops (lengthens (terminal p))) (sym (append_assoc (token_text (terminal q)) (spaced_after q qs) rest)) (tight_stops p (terminal q) (spaced_after q qs ++ rest) h)
    go false h = byte_stops (terminal p) 32 ((token_text (terminal q) ++ spaced_after q qs) ++ rest) refl refl refl

-- these tokens, and then those of b, which end as b does
pub record Same (ts : List Terminal) (a b : TokenStream) : Type 0 where
  pub tokens : terminals a ≡ ts ++ terminals b
  pub ending : a.ending ≡ b.ending

same-first : (k : ℕ) (t : Terminal) (ts : List Terminal) (a b : TokenStream) → Same ts a b → Same (t ∷ ts) (with_first (k, t) a) b
same-first k t ts a b s = record { tokens = ap (λ l. t ∷ l) s.tokens; ending = s.ending }

same_at : (ts : List Terminal) (a c b : TokenStream) → a ≡ c → Same ts c b → Same ts a b
same_at ts a c b e s = subst (λ x. Same ts x b) (sym e) s

piece-lexes : (at end : ℕ) (p : Piece) (ps : List Piece) (rest : List ℕ) → IsValid (terminal p) → LineEnds rest
    → ((from : ℕ) → end ≡ from + length (spaced_after p ps) → Same (map terminal ps) (tokens_from from 0 (spaced_after p ps ++ rest)) (tokens_from end 0 rest))
    → end ≡ at + length (token_text (terminal p) ++ spaced_after p ps) → Same (map terminal (p ∷ ps)) (tokens_from at 0 ((token_text (terminal p) ++ spaced_after p ps) ++ rest)) (tokens_from end 0 rest)
piece-lexes at end p ps rest valid e after is =
    same_at _ _ (with_first (at, terminal p) (tokens_from (at + length (token_text (terminal p))) 0 (spaced_after p ps ++ rest))) _
    (ap (tokens_from at 0) (append_assoc (token_text (terminal p)) (spaced_after p ps) rest) ∙ token_text-first at (terminal p) (spaced_after p ps ++ rest) valid (stops_after p ps rest e))
    (same-first at (terminal p) _ _ _ (after (at + length (token_text (terminal p))) (omega (arith, length-append (token_text (terminal p)) (spaced_after p ps)))))

space-skipped : (at c : ℕ) (text : List ℕ) → is_space c ≡ true → tokens_from at 0 (c ∷ text) ≡ tokens_from (suc at) 0 text
unfolding tokens_from trivia_len
space-skipped at c text h = rw h refl

spaced_after-lexes : (p : Piece) (ps : List Piece) (at end : ℕ) (rest : List ℕ) → AreValid ps → LineEnds rest → end ≡ at + length (spaced_after p ps)
    → Same (map terminal ps) (tokens_from at 0 (spaced_after p ps ++ rest)) (tokens_from end 0 rest)
spaced_after-lexes p [] at end rest valid e is =
    let here : end ≡ at = omega arith in
    rw here (record { tokens = refl; ending = refl })
spaced_after-lexes p (q ∷ qs) at end rest valid e is = go (attaches_left (terminal q) || attaches_right p (terminal q)) is (λ from j. spaced_after-lexes q qs from end rest valid.1 e j)
  where
    go : (b : Bool) → end ≡ at + length ((if b then [] else 32 ∷ []) ++ (token_text (terminal q) ++ spaced_after q qs))
        → ((from : ℕ) → end ≡ from + length (spaced_after q qs) → Same (map terminal qs) (tokens_from from 0 (spaced_after q qs ++ rest)) (tokens_from end 0 rest))
        → Same (map terminal (q ∷ qs)) (tokens_from at 0 (((if b then [] else 32 ∷ []) ++ (token_text (terminal q) ++ spaced_after q qs)) ++ rest)) (tokens_from end 0 rest)
    go true i after = piece-lexes at end q qs rest valid.0 e after i
    go false i after = same_at _ _ _ _ (space-skipped at 32 ((token_text (terminal q) ++ spaced_after q qs) ++ rest) refl) (piece-lexes (suc at) end q qs rest valid.0 e after (omega arith))

pub spaced_text-lexes : (ps : List Piece) (at end : ℕ) (rest : List ℕ) → AreValid ps → LineEnds rest → end ≡ at + length (spaced_text ps)
    → Same (map terminal ps) (tokens_from at 0 (spaced_text ps ++ rest)) (tokens_from end 0 rest)
spaced_text-lexes [] at end rest valid e is =
    let here : end ≡ at = omega arith in
    rw here (record { tokens = refl; ending = refl })
spaced_text-lexes (p ∷ ps) at end rest valid e is = piece-lexes at end p ps rest valid.0 e (λ from j. spaced_after-lexes p ps from end rest valid.1 e j) is

-- no text of tokens begins with a byte order mark
ascii-no_bom : (xs rest : List ℕ) → 0 < length xs → get_or xs 0 0 < 128 → bom_len (xs ++ rest) ≡ 0
unfolding bom_len
ascii-no_bom [] rest nonempty low = absurd (omega arith)
ascii-no_bom (c ∷ cs) rest nonempty low = go (cs ++ rest) (ne_eqb c 239 (λ e. omega (arith, e)))
  where
    go : (l : List ℕ) → (c == 239) ≡ false → bom_len (c ∷ l) ≡ 0
    go [] h = refl
    go (d ∷ []) h = refl
    go (d ∷ e ∷ more) h = rw h refl

word-nonempty : (w : List ℕ) → IsWord w → 0 < length w
word-nonempty [] p = let lie : false ≡ true = p.begins_with_letter in cc
word-nonempty (c ∷ cs) p = omega arith

letter-ascii : (c : ℕ) → is_ascii_alphabetic c ≡ true → c < 128
letter-ascii c h = grind (arith, nat_tests)

digits-first : (ds : List ℕ) → 0 < length ds → all_ascii_digits ds ≡ true → get_or ds 0 0 < 128
digits-first [] nonempty all = absurd (omega arith)
digits-first (c ∷ cs) nonempty all = digit-ascii c (first_of (is_ascii_digit c) (all_ascii_digits cs) all)

token-no_bom : (t : Terminal) (rest : List ℕ) → IsValid t → bom_len (token_text t ++ rest) ≡ 0
token-no_bom (word w) rest p = ascii-no_bom w rest (word-nonempty w p) (letter-ascii _ p.begins_with_letter)
token-no_bom (number n) rest p =
    let small : n < 2 ^ 64 = omega arith in
    ascii-no_bom (decimal n) rest (decimal_nonempty n small) (digits-first (decimal n) (decimal_nonempty n small) (digits_decimal own n small))
token-no_bom (quoted s) rest p = ascii-no_bom (34 ∷ escaped_text s ++ 34 ∷ []) rest (omega arith) (omega arith)
token-no_bom (symbol s) rest p = ascii-no_bom (spelling s) rest (spelling-ascii s).nonempty (spelling-ascii s).first

line-no_bom : (ps : List Piece) (rest : List ℕ) → AreValid ps → LineEnds rest → bom_len (spaced_text ps ++ rest) ≡ 0
unfolding bom_len
line-no_bom [] [] p e = refl
line-no_bom [] (c ∷ cs) p e = ascii-no_bom (c ∷ []) cs (omega arith) (omega arith)
line-no_bom (q ∷ qs) rest p e = ap bom_len (append_assoc (token_text (terminal q)) (spaced_after q qs) rest) ∙ token-no_bom (terminal q) (spaced_after q qs ++ rest) p.0

tokens_of-at : (text : List ℕ) → bom_len text ≡ 0 → tokens_of text ≡ tokens_from 0 0 text
unfolding tokens_of
tokens_of-at text h = ap (λ n. tokens_from 0 n text) h

at_end : (end : ℕ) → tokens_from end 0 [] ≡ empty_stream (eof end)
unfolding tokens_from
at_end end = refl

same_then : (ts us : List Terminal) (a b c : TokenStream) → Same ts a b → Same us b c → Same (ts ++ us) a c
same_then ts us a b c s t = record { tokens = s.tokens ∙ ap (λ l. ts ++ l) t.tokens ∙ sym (append_assoc ts us (terminals c)); ending = s.ending ∙ t.ending }

whole_text : (ts : List Terminal) (text : List ℕ) (end : ℕ) → bom_len text ≡ 0 → Same ts (tokens_from 0 0 text) (empty_stream (eof end)) → (terminals (tokens_of text) ≡ ts) × ((tokens_of text).ending ≡ eof end)
whole_text ts text end h s = rw (tokens_of-at text h) (s.tokens ∙ append-nil ts, s.ending)

pub spaced_text-round_trips : SpacedTextRoundTrips
spaced_text-round_trips ps valid =
    whole_text (map terminal ps) (spaced_text ps) (length (spaced_text ps)) (ap bom_len (sym (append-nil (spaced_text ps))) ∙ line-no_bom ps [] valid tt)
    (same_at _ _ (tokens_from 0 0 (spaced_text ps ++ [])) _ (ap (tokens_from 0 0) (sym (append-nil (spaced_text ps))))
    (subst (λ b. Same (map terminal ps) (tokens_from 0 0 (spaced_text ps ++ [])) b) (at_end (length (spaced_text ps))) (spaced_text-lexes ps 0 (length (spaced_text ps)) [] valid tt (omega arith))))

pub lines_text-lexes : (pss : List (List Piece)) (at end : ℕ) → AreValidLines pss → end ≡ at + length (lines_text pss) → Same (terminals_of_lines pss) (tokens_from at 0 (lines_text pss)) (empty_stream (eof end))
lines_text-lexes [] at end valid is =
    let here : end ≡ at = omega arith in
    rw here (same_at [] _ (empty_stream (eof at)) _ (at_end at) (record { tokens = refl; ending = refl }))
lines_text-lexes (ps ∷ pss) at end valid is =
    let middle : ℕ = at + length (spaced_text ps) in
    same_then (map terminal ps) (terminals_of_lines pss) _ (tokens_from middle 0 (10 ∷ lines_text pss)) _ (spaced_text-lexes ps at middle (10 ∷ lines_text pss) valid.0 refl refl)
    (same_at _ _ (tokens_from (suc middle) 0 (lines_text pss)) _ (space-skipped middle 10 (lines_text pss) refl)
    (lines_text-lexes pss (suc middle) end valid.1 (omega (arith, length-append (spaced_text ps) (10 ∷ lines_text pss)))))

lines-no_bom : (pss : List (List Piece)) → AreValidLines pss → bom_len (lines_text pss) ≡ 0
unfolding bom_len
lines-no_bom [] p = refl
lines-no_bom (ps ∷ pss) p = line-no_bom ps (10 ∷ lines_text pss) p.0 refl

pub lines_text-round_trips : LinesRoundTrip
lines_text-round_trips pss valid = whole_text (terminals_of_lines pss) (lines_text pss) (length (lines_text pss)) (lines-no_bom pss valid) (lines_text-lexes pss 0 (length (lines_text pss)) valid (omega arith))
