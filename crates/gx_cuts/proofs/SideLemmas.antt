-- The search for the side of a grid finds the least number, and so does a square root.
use Rattle.std.proofs.Common.{◌≡◌, ℕ, zero, suc, ◌+◌, ◌-◌, ◌*◌, ◌<◌, ◌≤◌, Bool, true, false, inl, inr, nat_le, subst, refl, zero-le, arith}
use Rattle.std.proofs.lemmas.Bool.{leb-true, leb-false, cases_lt}
use Rattle.std.proofs.Math.Nat.{mul-le-mul}
use Rattle.gx_cuts.specs.Sides.{IsSide, first_side, grid_side}

-- the square of a greater number is greater
below_root : (s t : ℕ) → t * t < s * s → t < s
below_root s t h = elim (cases_lt t s) [ inl less ↦ less | inr more ↦ absurd (omega (arith, h, mul-le-mul more more)) ]

-- the next number to look at is still at most the least one
next_least : (parts s t : ℕ) → s * s < parts → parts ≤ t * t → s + 1 ≤ t
next_least parts s t low high = omega (arith, below_root t s (omega arith))

pub IsSide-first_side : (parts s k : ℕ) → parts ≤ (s + k) * (s + k) → ((t : ℕ) → parts ≤ t * t → s ≤ t) → IsSide parts (first_side parts s k)
unfolding first_side
IsSide-first_side parts s zero enough least = record { enough = omega (arith, enough); least = least }
IsSide-first_side parts s (suc k) enough least =
    let b : Bool = nat_le parts (s * s) in
    elim b as (λ v. nat_le parts (s * s) ≡ v → IsSide parts (elim v [ true ↦ s | false ↦ first_side parts (s + 1) k ])) [
      | true ↦ λ e. record { enough = leb-true _ _ e; least = least }
      | false ↦ λ e. IsSide-first_side parts (s + 1) k (subst (λ (n : ℕ). parts ≤ n * n) (omega arith) enough) (λ t h. next_least parts s t (leb-false _ _ e) h)
    ] refl

-- no number is above its square
square_enough : (n : ℕ) → n ≤ (0 + n) * (0 + n)
square_enough zero = omega arith
square_enough (suc n) = omega arith

pub IsSide-grid_side : (parts : ℕ) → 1 ≤ parts → IsSide parts (grid_side parts)
unfolding grid_side
IsSide-grid_side parts some = IsSide-first_side parts 0 parts (square_enough parts) (λ t h. zero-le)

-- one more than the root of one less
pub IsSide-root : (parts r : ℕ) → 1 ≤ parts → r * r ≤ parts - 1 → parts - 1 < (r + 1) * (r + 1) → IsSide parts (r + 1)
IsSide-root parts r some low high = record { enough = omega arith; least = λ t h. next_least parts r t (omega arith) h }
