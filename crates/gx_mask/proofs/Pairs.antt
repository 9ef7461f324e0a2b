-- Masks combined u64 by u64 are combined index by index.
use Rattle.std.proofs.Common.{◌≡◌, ℕ, zero, suc, ◌-◌, ◌/◌, ◌%◌, ◌^◌, ◌<◌, ◌≤◌, ◌==◌, Bool, false, not, ◌&&◌, List, map, length, get_or, bit_and, min, w64, inl, inr, ap, sym, ◌∙◌, refl, arith}
use Rattle.std.specs.Int.{bit_at, bit_not}
use Rattle.std.specs.List.{zip}
use Rattle.std.proofs.lemmas.Bool.{cases_lt}
use Rattle.std.proofs.lemmas.List.{get_or-map, get_or_past, length-map}
use Rattle.std.proofs.lemmas.Nat.Bits.{bit_at-lt, bit_at_and, bit_at_not}
use Rattle.std.proofs.lemmas.Slice.Zip.{get_or-zip, length-zip}
use Rattle.gx_mask.specs.Operations.{and, and_not}
use Rattle.gx_mask.specs.U64s.{is_set}
use Rattle.gx_mask.proofs.Represents.{Represents}

-- a read of pairs, also past the end, where both lists give the default
get_or-pairs : {A : Type 0} (f : A × A → A) (d : A) (xs ys : List A) → length xs ≡ length ys → f (d, d) ≡ d
    → (i : ℕ) → get_or (map f (zip xs ys)) i d ≡ f (get_or xs i d, get_or ys i d)
get_or-pairs f d xs ys same none i =
    let long : length (zip xs ys) ≡ length xs = omega (arith, length-zip xs ys, same) in
    elim (cases_lt i (length xs)) [
      | inl less ↦ get_or-map f (zip xs ys) i (d, d) d (omega (arith, long, less)) ∙ ap f (get_or-zip xs ys i (d, d) less (omega (arith, same, less)))
      | inr more ↦ (let past : length (map f (zip xs ys)) ≤ i = omega (arith, length-map (zip xs ys) f, long, more) in
          let also : length ys ≤ i = omega (arith, same, more) in
          rw (get_or_past (map f (zip xs ys)) i d past, get_or_past xs i d more, get_or_past ys i d also) (sym none))
    ]

-- f combines u64s as g combines bools
record Combines (f : ℕ × ℕ → ℕ) (g : Bool × Bool → Bool) (us vs : List ℕ) : Type 0 where
  bits : (q k : ℕ) → k < 64 → (bit_at (f (get_or us q 0, get_or vs q 0)) k == 1) ≡ g (bit_at (get_or us q 0) k == 1, bit_at (get_or vs q 0) k == 1)
  zeros : f (0, 0) ≡ 0
  falses : g (false, false) ≡ false

is_set-pairs : (f : ℕ × ℕ → ℕ) (g : Bool × Bool → Bool) (us vs : List ℕ) → length us ≡ length vs → Combines f g us vs → (i : ℕ)
    → is_set (map f (zip us vs)) i ≡ g (is_set us i, is_set vs i)
unfolding is_set
is_set-pairs f g us vs same c i = rw (get_or-pairs f 0 us vs same c.zeros (i / 64)) (c.bits (i / 64) (i % 64) (omega arith))

combined : (f : ℕ × ℕ → ℕ) (g : Bool × Bool → Bool) {us vs : List ℕ} {n m : ℕ} {xs ys : List Bool} → Combines f g us vs → Represents us n xs → Represents vs m ys
    → length xs ≡ length ys → Represents (map f (zip us vs)) n (map g (zip xs ys))
combined f g {us = us} {vs = vs} {xs = xs} {ys = ys} c r s same =
    let long : length us ≡ length vs = omega (arith, r.exact, s.exact, r.len, s.len, same) in
    record {
      len = omega (arith, length-map (zip xs ys) g, length-zip xs ys, same, r.len);
      fits = r.fits;
      exact = omega (arith, length-map (zip us vs) f, length-zip us vs, long, r.exact);
      each = λ i. is_set-pairs f g us vs long c i ∙ ap (λ b. g (b, is_set vs i)) (r.each i) ∙ ap (λ b. g (get_or xs i false, b)) (s.each i)
          ∙ sym (get_or-pairs g false xs ys same c.falses i);
    }

-- bits as numbers
both_ones : (x y : ℕ) → x < 2 → y < 2 → (min x y == 1) ≡ ((x == 1) && (y == 1))
both_ones zero zero p q = refl
both_ones zero (suc zero) p q = refl
both_ones (suc zero) zero p q = refl
both_ones (suc zero) (suc zero) p q = refl
both_ones (suc (suc x)) y p q = absurd (omega arith)
both_ones x (suc (suc y)) p q = absurd (omega arith)

one_and_zero : (x y : ℕ) → x < 2 → y < 2 → (min x (1 - y) == 1) ≡ ((x == 1) && not (y == 1))
one_and_zero zero zero p q = refl
one_and_zero zero (suc zero) p q = refl
one_and_zero (suc zero) zero p q = refl
one_and_zero (suc zero) (suc zero) p q = refl
one_and_zero (suc (suc x)) y p q = absurd (omega arith)
one_and_zero x (suc (suc y)) p q = absurd (omega arith)

pub and_of : {us vs ws : List ℕ} {n m : ℕ} {xs ys : List Bool} → Represents us n xs → Represents vs m ys → length xs ≡ length ys
    → ws ≡ map (λ p. bit_and p.0 p.1) (zip us vs) → Represents ws n (and xs ys)
and_of {us = us} {vs = vs} r s same made =
    rw made (combined (λ p. bit_and p.0 p.1) (λ p. p.0 && p.1) (record {
      bits = λ q k _. ap (λ x. x == 1) (bit_at_and (get_or us q 0) (get_or vs q 0) k) ∙ both_ones _ _ (bit_at-lt _ k) (bit_at-lt _ k);
      zeros = refl;
      falses = refl;
    }) r s same)

pub and_not_of : {us vs ws : List ℕ} {n m : ℕ} {xs ys : List Bool} → Represents us n xs → Represents vs m ys → length xs ≡ length ys
    → ((q : ℕ) → get_or vs q 0 < 2 ^ 64) → ws ≡ map (λ p. bit_and p.0 (bit_not w64 p.1)) (zip us vs) → Represents ws n (and_not xs ys)
and_not_of {us = us} {vs = vs} r s same fits made =
    rw made (combined (λ p. bit_and p.0 (bit_not w64 p.1)) (λ p. p.0 && not p.1) (record {
      bits = λ q k less. ap (λ x. x == 1) (bit_at_and (get_or us q 0) (bit_not w64 (get_or vs q 0)) k
          ∙ ap (min (bit_at (get_or us q 0) k)) (bit_at_not w64 (get_or vs q 0) k (fits q) less))
          ∙ one_and_zero _ _ (bit_at-lt _ k) (bit_at-lt _ k);
      zeros = refl;
      falses = refl;
    }) r s same)
