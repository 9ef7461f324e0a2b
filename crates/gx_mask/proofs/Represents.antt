-- The u64s of a mask and its list, index by index.
use Rattle.std.proofs.Common.{◌≡◌, ℕ, ◌+◌, ◌*◌, ◌/◌, ◌%◌, ◌^◌, ◌<◌, ◌==◌, Bool, false, List, length, get_or, slice_get, Some, nat_eq, bit_and, inl, inr, ap, sym, ◌∙◌, refl, arith}
use Rattle.std.specs.Int.{bit_at, div_ceil}
use Rattle.std.proofs.lemmas.Bool.{cases_lt}
use Rattle.std.proofs.lemmas.List.{get_or_past, get_or_read}
use Rattle.std.proofs.lemmas.List.FromFn.{fill_by_all, get_or-map-range_with_len, length-map-range_with_len}
use Rattle.std.proofs.lemmas.Nat.Bits.{shr_and_one}
use Rattle.std.proofs.lemmas.Option.{slice_get-get_or}
use Rattle.gx_mask.specs.U64s.{HasNoStrayBits, bits_of, is_set}

-- these u64s are those of a mask of length n, seen as xs
pub record Represents (us : List ℕ) (n : ℕ) (xs : List Bool) : Type 0 where
  pub len : length xs ≡ n
  pub fits : n < 2 ^ 32
  pub exact : length us ≡ div_ceil n 64
  pub each : (i : ℕ) → is_set us i ≡ get_or xs i false

pub represents : {us : List ℕ} {n : ℕ} {xs : List Bool} → HasNoStrayBits us n → bits_of us n ≡ xs → Represents us n xs
represents {us = us} {n = n} clean seen =
    let long : length (bits_of us n) ≡ n = length-map-range_with_len (is_set us) 0 n in
    rw (← seen) (record {
      len = long;
      fits = clean.fits_u32;
      exact = clean.exact_len;
      each = λ i. elim (cases_lt i n) [
        | inl less ↦ sym (get_or-map-range_with_len (is_set us) 0 n i i false less (omega arith))
        | inr more ↦ clean.clear i more ∙ sym (get_or_past (bits_of us n) i false (omega (arith, long, more)))
      ];
    })

pub no_stray_bits : {us : List ℕ} {n : ℕ} {xs : List Bool} → Represents us n xs → HasNoStrayBits us n
no_stray_bits {xs = xs} r =
    record { fits_u32 = r.fits; exact_len = r.exact; clear = λ i past. r.each i ∙ get_or_past xs i false (omega (arith, r.len, past)) }

pub bits_are : {us : List ℕ} {n : ℕ} {xs : List Bool} → Represents us n xs → bits_of us n ≡ xs
bits_are {us = us} {n = n} {xs = xs} r = sym (fill_by_all (is_set us) xs n false r.len (λ i _. sym (r.each i)))

pub has_u64 : {us : List ℕ} {n : ℕ} {xs : List Bool} (i : ℕ) → Represents us n xs → i < length xs → i / 64 < length us
has_u64 i r h = omega (arith, r.exact, r.len, h)

-- an index is tested by a shift of its u64
pub tested : {us : List ℕ} {n : ℕ} {xs : List Bool} (i w : ℕ) → Represents us n xs → i < length xs → w ≡ get_or us (i / 64) w
    → slice_get xs i ≡ Some (nat_eq (bit_and (w / 2 ^ (i % 64)) 1) 1)
unfolding is_set
tested {us = us} {xs = xs} i w r h read =
    let same : w ≡ get_or us (i / 64) 0 = get_or_read us (i / 64) w (has_u64 i r h) read 0 in
    let value : nat_eq (bit_and (w / 2 ^ (i % 64)) 1) 1 ≡ is_set us i = rw (shr_and_one w (i % 64), ← same) refl in
    slice_get-get_or xs i false h ∙ ap Some (sym (r.each i) ∙ sym value)

-- an index by its u64 and its bit
pub in_u64 : (us : List ℕ) (q k : ℕ) → k < 64 → is_set us (64 * q + k) ≡ (bit_at (get_or us q 0) k == 1)
unfolding is_set
in_u64 us q k h =
    let index : (64 * q + k) / 64 ≡ q = omega arith in
    let bit : (64 * q + k) % 64 ≡ k = omega arith in
    rw (index, bit) refl
