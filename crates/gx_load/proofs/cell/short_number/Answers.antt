use Rattle.std.proofs.Common.{◌≡◌, ◌<◌, ◌==◌, false, List, [], ◌∷◌, ℕ, length, Some, sym, ap, ◌∙◌, subst, refl, arith}
use Rattle.std.proofs.lemmas.Int.{to_z_pos}
use Rattle.std.specs.Int.{w64}
use Rattle.std.specs.Str.Parse.{AllDigits, digits_value, digits_value_after}
use Rattle.gx_load.proofs.CellLemmas.{number_of-digits}
use Rattle.gx_load.proofs.cell.short_number.Goals as goal

none_left : (rest : List ℕ) → length rest < 1 → rest ≡ []
none_left [] few = refl
none_left (c ∷ rest) few = absurd (omega arith)

some_bytes : (text : List ℕ) → false ≡ (length text == 0) → 0 < length text
some_bytes [] some = cc
some_bytes (c ∷ text) some = omega arith

pub returns : goal.returns
returns c =
    let none = none_left c.digits.rest.now c.in_default.len_below in
    let all = c.digits.invariant.digits (subst (AllDigits 10) (sym none) tt) in
    let value : digits_value 10 c.args.text.now ≡ c.digits.number = sym c.digits.invariant.value ∙ ap (digits_value_after 10 c.digits.number) none in
    number_of-digits c.args.text.now c.digits.number (some_bytes c.args.text.now c.if-is_empty.ensures) all value (omega (arith, c.digits.invariant.small))
    ∙ ap Some (sym (to_z_pos w64 c.digits.number (omega (arith, c.digits.invariant.small))))
