-- Quoted texts: where they close, their values, and how a value is written.
use Rattle.std.specs.Prelude.{◌==◌, ◌||◌, ◌&&◌, if◌then◌else◌, not, option_map}
use Rattle.std.proofs.Common.{◌≡◌, ◌≢◌, ◌+◌, add-one, drop-cons, ◌<◌, ℕ, suc, Bool, true, false, List, [], ◌∷◌, ◌++◌, length, get_or, drop, Option, None, Some, refl, ap, arith}
use Rattle.std.proofs.lemmas.Bool.{eqb-true, ne_eqb}
use Rattle.std.proofs.lemmas.Bool.Decides.{nat_tests}
use Rattle.gx_syntax_tokens.specs.Quotes.{closing_at, closing_quote, is_escape, unescaped_from}
use Rattle.gx_syntax_tokens.specs.Scanning.{is_not_backslash, is_unescaped_byte}
use Rattle.gx_syntax_tokens.specs.SpacedText.{escaped_byte, escaped_text}
use Rattle.gx_syntax_tokens.proofs.RunLemmas.{Keeps}

-- the quotation mark that closes a text is in it
pub record ClosesAt (text : List ℕ) (n : ℕ) : Type 0 where
  pub within : n < length text
  pub quote : get_or text n 0 ≡ 34

pub closing_quote-closes : (escape : Bool) (text : List ℕ) (n : ℕ) → closing_quote escape text ≡ Some n → ClosesAt text n
closing_quote-closes escape [] n is = cc is
closing_quote-closes escape (c ∷ cs) n is =
    go escape (closing_quote (not escape && c == 92) cs) (λ m e. closing_quote-closes (not escape && c == 92) cs m e) is
  where
    after : (o : Option ℕ) → ((m : ℕ) → o ≡ Some m → ClosesAt cs m) → option_map suc o ≡ Some n → ClosesAt (c ∷ cs) n
    after None rest same = cc same
    after (Some m) rest same =
        let one_more : suc m ≡ n = cc same in
        let closes = rest m refl in
        rw (← one_more) (record { within = omega (arith, closes.within); quote = closes.quote })

    in_escape : (b : Bool) (o : Option ℕ) → ((m : ℕ) → o ≡ Some m → ClosesAt cs m) → (if b then option_map suc o else None) ≡ Some n → ClosesAt (c ∷ cs) n
    in_escape true o rest same = after o rest same
    in_escape false o rest same = cc same

    in_text : (a b : Bool) → (c == 34) ≡ a → (o : Option ℕ) → ((m : ℕ) → o ≡ Some m → ClosesAt cs m)
        → (if a then Some 0 else if b then None else option_map suc o) ≡ Some n → ClosesAt (c ∷ cs) n
    in_text true b quote o rest same =
        let here : 0 ≡ n = cc same in
        rw (← here) (record { within = omega arith; quote = eqb-true c 34 quote })
    in_text false true quote o rest same = cc same
    in_text false false quote o rest same = after o rest same

    go : (e : Bool) (o : Option ℕ) → ((m : ℕ) → o ≡ Some m → ClosesAt cs m) → closing_at e c o ≡ Some n → ClosesAt (c ∷ cs) n
    go true o rest same = in_escape (is_escape c) o rest same
    go false o rest same = in_text (c == 34) (c == 10 || c == 13) refl o rest same

not_true : (b : Bool) → not b ≡ true → b ≡ false
not_true true h = cc
not_true false h = refl

not_false : (b : Bool) → not b ≡ false → b ≡ true
not_false true h = refl
not_false false h = cc

-- a value keeps the bytes that are no backslash
pub unescaped-keeps : Keeps is_not_backslash (unescaped_from false)
unescaped-keeps = record { none = refl; more = λ c cs h. let plain : (c == 92) ≡ false = not_true (c == 92) h in rw plain refl }

pub backslash_is : (c : ℕ) → is_not_backslash c ≡ false → c ≡ 92
backslash_is c h = eqb-true c 92 (not_false (c == 92) h)

pub backslash-ascii : (c : ℕ) → is_not_backslash c ≡ false → c < 128
backslash-ascii c h = omega (arith, backslash_is c h)

pub escape-ascii : (c : ℕ) → is_escape c ≡ true → c < 128
escape-ascii c h = grind (arith, nat_tests)

-- the bytes of a value, byte by byte
pub value_len_escape : (raw : List ℕ) (i : ℕ) → i < length raw → length (unescaped_from true (drop i raw)) ≡ 1 + length (unescaped_from false (drop (i + 1) raw))
value_len_escape raw i h = rw (add-one, drop-cons raw i 0) (omega arith)

pub value_len_backslash : (raw : List ℕ) (i : ℕ) → i < length raw → get_or raw i 0 ≡ 92 → length (unescaped_from false (drop i raw)) ≡ length (unescaped_from true (drop (i + 1) raw))
value_len_backslash raw i h is = rw (add-one, drop-cons raw i 0, is) refl

pub value_len_plain : (raw : List ℕ) (i : ℕ) → i < length raw → get_or raw i 0 ≢ 92 → length (unescaped_from false (drop i raw)) ≡ 1 + length (unescaped_from false (drop (i + 1) raw))
value_len_plain raw i h other =
    let plain : (get_or raw i 0 == 92) ≡ false = ne_eqb (get_or raw i 0) 92 other in
    rw (add-one, drop-cons raw i 0, plain) (omega arith)

pub ruleset value_len_steps = (value_len_escape, value_len_backslash, value_len_plain)

-- a byte that is not escaped is written as it is
pub plain-escaped : (c : ℕ) → is_unescaped_byte c ≡ true → escaped_byte c ≡ c ∷ []
plain-escaped c h = go (c == 34) (c == 92) (c == 10) (c == 9) (c == 13) h
  where
    go : (a b d e f : Bool) → not (a || b || d || e || f) ≡ true
        → (if a then 92 ∷ 34 ∷ [] else if b then 92 ∷ 92 ∷ [] else if d then 92 ∷ 110 ∷ [] else if e then 92 ∷ 116 ∷ [] else if f then 92 ∷ 114 ∷ [] else c ∷ []) ≡ c ∷ []
    go false false false false false h = refl
    go true b d e f h = cc
    go false true d e f h = cc
    go false false true e f h = cc
    go false false false true f h = cc
    go false false false false true h = cc

pub escaped-keeps : Keeps is_unescaped_byte escaped_text
escaped-keeps = record { none = refl; more = λ c cs h. ap (λ l. l ++ escaped_text cs) (plain-escaped c h) }

pub special-ascii : (c : ℕ) → is_unescaped_byte c ≡ false → c < 128
special-ascii c h = grind (arith, nat_tests)

pub escaped-first : (special : List ℕ) → 0 < length special → escaped_text special ≡ escaped_byte (get_or special 0 0) ++ escaped_text (drop 1 special)
escaped-first [] nonempty = absurd (omega arith)
escaped-first (c ∷ cs) nonempty = refl
