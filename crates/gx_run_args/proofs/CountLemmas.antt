-- The count that a text spells: what `parse` finds in a text of digits.
use Rattle.std.proofs.Common.{◌≡◌, ◌≤◌, ℕ, Bool, List, length, None, Some, Err, true, false, refl, rules, sym, arith, nat_le}
use Rattle.std.proofs.lemmas.Bool.{leb-true}
use Rattle.std.proofs.lemmas.Str.Parse.{IsNumeralModel, numerals_by_value, parse_digits}
use Rattle.std.specs.Prelude.{◌&&◌, if◌then◌else◌}
use Rattle.std.specs.Char.{is_ascii_digit}
use Rattle.std.specs.List.{list_all}
use Rattle.std.specs.Str.Parse.{ParsesUnsigned, digits_value}
use Rattle.gx_run_args.specs.RunCommands.{count_value}

digits : IsNumeralModel (λ ds. list_all is_ascii_digit ds ≡ true) (digits_value 10)
digits = numerals_by_value (λ ds. list_all is_ascii_digit ds ≡ true) (search rules)

-- if one of the tests fails, the text spells no count
no_count : (text : List ℕ) → (1 ≤ length text → length text ≤ 20 → list_all is_ascii_digit text ≡ true → 1 ≤ digits_value 10 text → digits_value 10 text ≤ 64 → ⊥) → count_value text ≡ None
no_count text h =
    go (nat_le 1 (length text)) (nat_le (length text) 20) (list_all is_ascii_digit text) (nat_le 1 (digits_value 10 text)) (nat_le (digits_value 10 text) 64)
    (λ a b c d e. h (leb-true _ _ a) (leb-true _ _ b) c (leb-true _ _ d) (leb-true _ _ e))
  where
    go : (a b c d e : Bool) → (a ≡ true → b ≡ true → c ≡ true → d ≡ true → e ≡ true → ⊥)
        → (if (a && b) && (c && (d && e)) then Some (digits_value 10 text) else None) ≡ None
    go true true true true true counted = absurd (counted refl refl refl refl refl)
    go true true true true false _ = refl
    go true true true false e _ = refl
    go true true false d e _ = refl
    go true false c d e _ = refl
    go false b c d e _ = refl

-- digits that are not parsed spell no number of 32 bits, so no count
pub count_value-unparsed : {E : Type 0} (text : List ℕ) (e : E) → ParsesUnsigned 32 10 text (Err e) → None ≡ count_value text
count_value-unparsed text e h =
    sym (no_count text (λ some short all least most. parse_digits digits 32 text (Err e) h all (some, omega arith)))
