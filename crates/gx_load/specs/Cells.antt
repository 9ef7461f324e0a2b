-- The cells of a data file: which bytes count, and the numbers and truth values that they spell.
use Rattle.std.specs.Prelude.{◌≡◌, ℕ, ℤ, pos, neg_ℤ, ◌^◌, ◌-◌, Bool, true, ◌||◌, ◌&&◌, ◌==◌, false, if◌then◌else◌, List, [], ◌∷◌, reverse, filter, Option, None, Some, bytes_eq, codes, refl}
use Rattle.std.specs.List.{slice_split}
use Rattle.std.specs.Str.{all_ascii_digits}
use Rattle.std.specs.Str.Parse.{without_leading_sign, signed_digits_value}
use Rattle.gx_rows.specs.Bounds.{fits_64_bits}

-- a space or a tab
abbrev pub is_blank : ℕ → Bool
is_blank byte = (byte == 32) || (byte == 9)

-- the text after the spaces and tabs at its start
abbrev pub trim_start : List ℕ → List ℕ
trim_start [] = []
trim_start (byte ∷ rest) = if is_blank byte then trim_start rest else byte ∷ rest

-- the text before the spaces and tabs at its end
abbrev pub trim_end : List ℕ → List ℕ
trim_end text = reverse (trim_start (reverse text))

-- the text between the spaces and tabs at its ends
unfoldable pub trim : List ℕ → List ℕ
trim text = trim_end (trim_start text)

-- ---- whole numbers

-- one digit or more
abbrev pub is_numeral : List ℕ → Bool
is_numeral [] = false
is_numeral (digit ∷ digits) = all_ascii_digits (digit ∷ digits)

-- the number of 64 bits that a text spells: a sign or none, and then digits
unfoldable pub number_of : List ℕ → Option ℤ
number_of text =
    if is_numeral (without_leading_sign text) && fits_64_bits (signed_digits_value 10 text)
    then Some (signed_digits_value 10 text)
    else None

-- the whole number in a cell; spaces and tabs around it do not count
unfoldable pub int_of : List ℕ → Option ℤ
int_of cell = number_of (trim cell)

-- zeros before a number, blanks around it and either sign of 0
int_of-zeros : int_of (codes "\t+007 ") ≡ Some (pos 7)
unfolding int_of number_of trim
int_of-zeros = refl

int_of-minus_zero : int_of (codes "-0") ≡ Some (pos 0)
unfolding int_of number_of trim
int_of-minus_zero = refl

-- the least number and the one below it
int_of-least : (int_of (codes "-9223372036854775808") ≡ Some (neg_ℤ (pos (2 ^ 63)))) × (int_of (codes "-9223372036854775809") ≡ None)
unfolding int_of number_of trim
int_of-least = (refl, refl)

-- the greatest number and the one above it
int_of-greatest : (int_of (codes "9223372036854775807") ≡ Some (pos (2 ^ 63 - 1))) × (int_of (codes "9223372036854775808") ≡ None)
unfolding int_of number_of trim
int_of-greatest = (refl, refl)

-- ---- truth values

-- the truth value that a text spells
abbrev pub truth_of_word : List ℕ → Option Bool
truth_of_word text =
    if bytes_eq text (codes "true") then Some true
    else if bytes_eq text (codes "false") then Some false
    else None

-- the truth value in a cell; spaces and tabs around it do not count
unfoldable pub bool_of : List ℕ → Option Bool
bool_of cell = truth_of_word (trim cell)

bool_of-blanks : bool_of (codes " true\t") ≡ Some true
unfolding bool_of trim
bool_of-blanks = refl

bool_of-capital : bool_of (codes "True") ≡ None
unfolding bool_of trim
bool_of-capital = refl

-- ---- words

-- a text that is not empty
abbrev pub is_nonempty : List ℕ → Bool
is_nonempty [] = false
is_nonempty (byte ∷ rest) = true

-- the words of a text: what is between the bytes that separate them, if that is not empty
unfoldable pub words_of : (ℕ → Bool) → List ℕ → List (List ℕ)
words_of separates text = filter is_nonempty (slice_split separates text)

words_of-blanks : words_of is_blank (codes "\t12  3 ") ≡ codes "12" ∷ codes "3" ∷ []
unfolding words_of
words_of-blanks = refl
