-- The whole number that a text spells: `parse` finds it, and only UTF-8 spells one.
use Rattle.std.proofs.Common.{◌≡◌, ◌∷◌, [], ◌<◌, ◌≤◌, ◌^◌, ap, length, ℕ, ℤ, Bool, List, None, Some, Result, Ok, Err, true, false, refl, sym, arith, zero, suc, get_or, inl, inr}
use Rattle.std.proofs.lemmas.Bool.{ltb-true, lt-ltb}
use Rattle.std.proofs.lemmas.Bool.Decides.{eqb_tells}
use Rattle.std.proofs.lemmas.Str.{IsUtf8-from_ascii}
use Rattle.std.proofs.lemmas.Fmt.{IsAscii-from_digits}
use Rattle.std.proofs.lemmas.Str.Parse.{IsNumeralModel, numerals_by_value, tells_all_ascii_digits}
use Rattle.std.specs.Prelude.{pos, negsuc, FitsSigned, IsUtf8, ◌&&◌, if◌then◌else◌}
use Rattle.std.specs.Char.{digit_value}
use Rattle.std.specs.Int.{w64}
use Rattle.std.specs.Result.{result_ok}
use Rattle.std.specs.Str.{IsAscii, all_ascii_digits}
use Rattle.std.specs.Str.Parse.{AllDigits, IsNumeral, ParsesSigned, digits_value, signed_digits_value, without_leading_sign}
use Rattle.csv.specs.Records.{field_at}
use Rattle.gx_load.specs.Cells.{is_numeral, number_of}
use Rattle.gx_rows.specs.Bounds.{fits_64_bits}

-- the test of the definition and that of `parse`
digits : IsNumeralModel (λ ds. all_ascii_digits ds ≡ true) (digits_value 10)
digits = numerals_by_value (λ ds. all_ascii_digits ds ≡ true) tells_all_ascii_digits

numeral : (ds : List ℕ) → is_numeral ds ≡ true → IsNumeral 10 ds
numeral [] e = cc e
numeral (d ∷ ds) e = (omega arith, digits.to (d ∷ ds) e)

numeral_back : (ds : List ℕ) → IsNumeral 10 ds → is_numeral ds ≡ true
numeral_back [] h = absurd (omega (arith, h.0))
numeral_back (d ∷ ds) h = digits.from (d ∷ ds) h.1

fits : (z : ℤ) → fits_64_bits z ≡ true → FitsSigned w64 z
fits (pos n) e = record { sfits = ltb-true _ _ e }
fits (negsuc n) e = record { sfits = ltb-true _ _ e }

fits_back : (z : ℤ) → FitsSigned w64 z → fits_64_bits z ≡ true
fits_back (pos n) h = lt-ltb _ _ h.sfits
fits_back (negsuc n) h = lt-ltb _ _ h.sfits

-- a number is spelled only if both tests pass
chosen : (a b : Bool) (z : ℤ) → (a ≡ true → b ≡ true → ⊥) → (if a && b then Some z else None) ≡ None
chosen true true z h = absurd (h refl refl)
chosen true false z h = refl
chosen false b z h = refl

no_number : (text : List ℕ) → ¬ (IsNumeral 10 (without_leading_sign text) × FitsSigned w64 (signed_digits_value 10 text)) → number_of text ≡ None
unfolding number_of
no_number text h =
    chosen (is_numeral (without_leading_sign text)) (fits_64_bits (signed_digits_value 10 text)) (signed_digits_value 10 text)
    (λ a b. h (numeral (without_leading_sign text) a, fits (signed_digits_value 10 text) b))

-- `parse` as an `i64` returns what the text spells
pub number_of-parsed : {E : Type 0} (text : List ℕ) (r : Result ℤ E) → ParsesSigned w64 10 text r → result_ok r ≡ number_of text
unfolding number_of
number_of-parsed text (Ok z) h = rw (numeral_back _ h.0.0, fits_back _ h.0.1, h.1) refl
number_of-parsed text (Err e) h = sym (no_number text h)

-- what the proof of `number_of` is found by
pub ruleset parsing = (number_of-parsed)

-- a byte before ASCII is ASCII
longer : (c : ℕ) (cs : List ℕ) → c < 128 → IsAscii cs → IsAscii (c ∷ cs)
longer c cs low rest zero = low
longer c cs low rest (suc i) = rest i

-- so is a text of digits after a sign or none
sign_then_digits : (c : ℕ) (cs : List ℕ) → AllDigits 10 (without_leading_sign (c ∷ cs)) → IsAscii (c ∷ cs)
sign_then_digits c cs h =
    elim (eqb_tells c 45) [
      | inl minus ↦ longer c cs (omega (arith, minus.1)) (IsAscii-from_digits cs (rw minus.0 at h))
      | inr other ↦ elim (eqb_tells c 43) [
        | inl plus ↦ longer c cs (omega (arith, plus.1)) (IsAscii-from_digits cs (rw (other.0, plus.0) at h))
        | inr digit ↦ IsAscii-from_digits (c ∷ cs) (rw (other.0, digit.0) at h)
      ]
    ]

-- a text that spells a number is UTF-8
IsUtf8-numeral : (text : List ℕ) → IsNumeral 10 (without_leading_sign text) → IsUtf8 text
IsUtf8-numeral [] h = absurd (omega (arith, h.0))
IsUtf8-numeral (c ∷ cs) h = IsUtf8-from_ascii (c ∷ cs) (sign_then_digits c cs h.1)

-- bytes that are not UTF-8 spell no number
pub number_of-not_utf8 : (text : List ℕ) → ¬ (IsUtf8 text) → number_of text ≡ None
number_of-not_utf8 text h = no_number text (λ n. h (IsUtf8-numeral text n.0))

-- a position without a field has the empty cell
pub cell-no_field : (fields : List (List ℕ)) (position : ℕ) → field_at fields position ≡ None → get_or fields position [] ≡ []
unfolding field_at
cell-no_field [] position e = refl
cell-no_field (f ∷ fs) zero e = cc e
cell-no_field (f ∷ fs) (suc i) e = cell-no_field fs i e

-- digits alone spell their number, if it has 64 bits
pub number_of-digits : (text : List ℕ) (n : ℕ) → 0 < length text → AllDigits 10 text → digits_value 10 text ≡ n → n < 2 ^ 63 → number_of text ≡ Some (pos n)
unfolding number_of
number_of-digits [] n some all value small = absurd (omega arith)
number_of-digits (c ∷ cs) n some all value small =
    elim (eqb_tells c 45) [
      | inl minus ↦ absurd (not_a_digit c 45 minus.1 all.0 (omega arith))
      | inr other ↦ elim (eqb_tells c 43) [
        | inl plus ↦ absurd (not_a_digit c 43 plus.1 all.0 (omega arith))
        | inr digit ↦
            let test : is_numeral (c ∷ cs) ≡ true = numeral_back (c ∷ cs) (omega arith, all) in
            let fits : fits_64_bits (pos (digits_value 10 (c ∷ cs))) ≡ true = lt-ltb _ _ (omega arith) in
            rw (other.0, digit.0, test, fits, value) refl
      ]
    ]
  where
    not_a_digit : (c d : ℕ) → c ≡ d → digit_value c < 10 → 10 ≤ digit_value d → ⊥
    not_a_digit c d same low high = omega (arith, ap digit_value same)
