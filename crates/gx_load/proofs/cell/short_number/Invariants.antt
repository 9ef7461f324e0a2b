use Rattle.std.proofs.Common.{◌≡◌, ◌<◌, ◌^◌, length}
use Rattle.std.specs.Str.Parse.{AllDigits, digits_value, digits_value_after}
use Rattle.gx_load.proofs.cell.short_number.Given as goal

-- the digits so far are those of the number, which has 18 at most
abbrev pub invariant-digits : goal.invariant-digits
invariant-digits l = record {
  value : digits_value_after 10 l.number l.rest ≡ digits_value 10 l.text;
  digits : AllDigits 10 l.rest → AllDigits 10 l.text;
  small : l.number < 10 ^ 18;
}

abbrev pub decreases-digits : goal.decreases-digits
decreases-digits l = length l.rest
