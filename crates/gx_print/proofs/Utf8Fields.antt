-- What `csv` writes of a text is UTF-8.
use Rattle.std.proofs.Common.{◌≡◌, ℕ, suc, ◌<◌, ◌≤◌, Bool, true, false, cond, List, [], ◌∷◌, length, get_or, IsUtf8, inl, inr, refl, sym, subst, arith, append-nil}
use Rattle.std.proofs.lemmas.Bool.{and_parts, cases_eq, cases_lt, ne_eqb}
use Rattle.std.proofs.lemmas.Str.{IsUtf8-append, IsUtf8-nil, IsUtf8-encode, encode_ascii, inside_one}
use Rattle.std.specs.List.{list_any}
use Rattle.std.specs.Prelude.{◌==◌}
use Rattle.csv.specs.Writing.{escaped, field_text, next_sep, needs_quotes, quoted, tail_text}
use Rattle.csv.proofs.WriteFacts.{escaped-append, escaped-double, escaped-none, escaped-other}
use Rattle.gx_print.specs.RowTexts.{line_writer}
use lib.Utf8.{scalar, scalars, encode, encodes, low_scalar}

-- a byte of ASCII before a text
after_ascii : (x : ℕ) (xs : List ℕ) → x < 128 → IsUtf8 xs → IsUtf8 (x ∷ xs)
after_ascii x xs small u =
    let scalar = IsUtf8-encode x (low_scalar x (omega arith)) in
    let first : IsUtf8 (x ∷ []) = subst IsUtf8 (encode_ascii x small) scalar in
    IsUtf8-append (x ∷ []) xs first u

either_utf8 : (b : Bool) (xs ys : List ℕ) → IsUtf8 xs → IsUtf8 ys → IsUtf8 (cond b xs ys)
either_utf8 true xs ys u v = u
either_utf8 false xs ys u v = v

-- bytes of 128 and more are no quotes
no_quote : (xs : List ℕ) → ((k : ℕ) → k < length xs → 128 ≤ get_or xs k 0) → list_any (λ b. b == 34) xs ≡ false
no_quote [] h = refl
no_quote (x ∷ xs) h =
    let high : 128 ≤ x = h 0 (omega arith) in
    let other : (x == 34) ≡ false = ne_eqb x 34 (λ e. omega arith) in
    rw (other, no_quote xs (λ k below. h (suc k) (omega arith))) refl

-- a character that is not ASCII has no byte of ASCII
bytes_above : (c : ℕ) → 128 ≤ c → (k : ℕ) → k < length (encode c) → 128 ≤ get_or (encode c) k 0
bytes_above c big k below = elim (cases_lt (get_or (encode c) k 0) 128) [
  | inl low ↦ absurd (omega (arith, inside_one c [] (encode c) k (sym (append-nil _)) below low))
  | inr high ↦ high
]

-- a character between quotes
char_utf8 : (c : ℕ) → scalar c ≡ true → IsUtf8 (escaped line_writer (encode c))
char_utf8 c ok = elim (cases_lt c 128) [
  | inl small ↦ elim (cases_eq c 34) [
    | inl is ↦
        rw (encode_ascii c small, escaped-double line_writer c is refl)
        (after_ascii c (c ∷ []) small (after_ascii c [] small IsUtf8-nil))
    | inr other ↦
        rw (encode_ascii c small, escaped-other line_writer c other) (after_ascii c [] small IsUtf8-nil)
  ]
  | inr big ↦
      let same = escaped-none line_writer (encode c) (no_quote (encode c) (bytes_above c big)) in
      subst IsUtf8 (sym same) (IsUtf8-encode c ok)
]

chars_utf8 : (cs : List ℕ) → scalars cs ≡ true → IsUtf8 (escaped line_writer (encodes cs))
unfolding escaped
chars_utf8 [] e = IsUtf8-nil
chars_utf8 (c ∷ cs) e =
    let each = and_parts _ _ e in
    let both = IsUtf8-append _ _ (char_utf8 c each.0) (chars_utf8 cs each.1) in
    subst IsUtf8 (sym (escaped-append line_writer (encode c) (encodes cs))) both

quoted_utf8 : (field : List ℕ) → IsUtf8 field → IsUtf8 (quoted line_writer field)
quoted_utf8 field u =
    let inner = subst (λ f. IsUtf8 (escaped line_writer f)) u.1.1 (chars_utf8 u.0 u.1.0) in
    let close = after_ascii 34 [] (omega arith) IsUtf8-nil in
    after_ascii 34 _ (omega arith) (IsUtf8-append _ _ inner close)

-- a field as it is written
pub field_utf8 : (field : List ℕ) → IsUtf8 field → IsUtf8 (field_text line_writer field)
field_utf8 field u =
    either_utf8 (needs_quotes line_writer field) (quoted line_writer field) field (quoted_utf8 field u) u

-- what stands before a field
pub separator_utf8 : (n : ℕ) → IsUtf8 (next_sep line_writer n)
separator_utf8 n = either_utf8 (n == 0) [] (44 ∷ []) IsUtf8-nil (after_ascii 44 [] (omega arith) IsUtf8-nil)

-- what ends a line
pub end_utf8 : (wrote : Bool) (n : ℕ) → IsUtf8 (tail_text line_writer wrote n)
end_utf8 wrote n =
    let quotes = after_ascii 34 (34 ∷ []) (omega arith) (after_ascii 34 [] (omega arith) IsUtf8-nil) in
    let feed = after_ascii 10 [] (omega arith) IsUtf8-nil in
    IsUtf8-append _ _ (either_utf8 _ (34 ∷ 34 ∷ []) [] quotes IsUtf8-nil) feed
