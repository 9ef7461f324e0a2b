-- What the checked operations of std return is the exact number, if 64 bits have it.
use Rattle.std.proofs.Common.{◌≡◌, ◌^◌, ℤ, pos, negsuc, Bool, true, false, Option, None, Some, Ok, Err, refl, int_div, w64, FitsSigned}
use Rattle.std.specs.Int.{CanDivide, IsNonZero}
use Rattle.std.specs.Option.{SomeIff, ok_or}
use Rattle.std.proofs.lemmas.Bool.{ltb-true, lt-ltb}
use Rattle.gx_rows.specs.declared.cause.Cause.TheVariants as cause
use Rattle.gx_expr.specs.Evaluation.{exact_int, fits_signed_64}

fits-true : (z : ℤ) → FitsSigned w64 z → fits_signed_64 z ≡ true
fits-true (pos n) f = lt-ltb n (2 ^ 63) f.sfits
fits-true (negsuc n) f = lt-ltb n (2 ^ 63) f.sfits

true-fits : (z : ℤ) → fits_signed_64 z ≡ true → FitsSigned w64 z
true-fits (pos n) e = record { sfits = ltb-true n (2 ^ 63) e }
true-fits (negsuc n) e = record { sfits = ltb-true n (2 ^ 63) e }

pub exact_int-fits : (z : ℤ) → FitsSigned w64 z → exact_int z ≡ Ok z
exact_int-fits z f = rw (fits-true z f) refl

pub exact_int-unfit : (z : ℤ) → ¬ FitsSigned w64 z → exact_int z ≡ Err cause.Overflow
exact_int-unfit z n = go (fits_signed_64 z) refl
  where
    go : (b : Bool) → fits_signed_64 z ≡ b → exact_int z ≡ Err cause.Overflow
    go true e = absurd (n (true-fits z e))
    go false e = rw e refl

-- a checked operation with the exact number z
pub exact_int-checked : (r : Option ℤ) (z : ℤ) → SomeIff r (FitsSigned w64 z) z → exact_int z ≡ ok_or r cause.Overflow
exact_int-checked (Some x) z h = rw (h.1) (exact_int-fits z h.0)
exact_int-checked None z h = exact_int-unfit z h

-- a checked division by a number that is not 0
pub exact_int-divided : (r : Option ℤ) (a b : ℤ) → IsNonZero w64 b → SomeIff r (CanDivide w64 a b) (int_div a b) → exact_int (int_div a b) ≡ ok_or r cause.Overflow
exact_int-divided (Some x) a b nonzero h = rw (h.1) (exact_int-fits (int_div a b) h.0.1)
exact_int-divided None a b nonzero h = exact_int-unfit (int_div a b) (λ f. h (nonzero, f))

pub ruleset checked = (exact_int-checked, exact_int-divided)
