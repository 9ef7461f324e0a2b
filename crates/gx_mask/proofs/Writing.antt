-- One bit is written.
use Rattle.std.proofs.Common.{◌≡◌, ◌≢◌, ℕ, ◌*◌, ◌/◌, ◌%◌, ◌^◌, ◌<◌, ◌==◌, Bool, true, false, List, length, get_or, set, bit_and, bit_or, w64, inl, inr, ap, sym, ◌∙◌, arith}
use Rattle.std.specs.Int.{bit_at, bit_not}
use Rattle.std.proofs.lemmas.Bool.{cases_eq}
use Rattle.std.proofs.lemmas.List.{get_or-set_other, get_or-set_same, get_or_read, length-set}
use Rattle.std.proofs.lemmas.Nat.Bits.{bit_at_clear_other, bit_at_clear_same, bit_at_set_other, bit_at_set_same}
use Rattle.gx_mask.specs.U64s.{is_set}
use Rattle.gx_mask.proofs.Represents.{Represents, has_u64}

-- w is the u64 of index i, with the bit of i alone made v
record Writes (us : List ℕ) (i w : ℕ) (v : Bool) : Type 0 where
  same : (bit_at w (i % 64) == 1) ≡ v
  others : (k : ℕ) → k < 64 → k ≢ i % 64 → bit_at w k ≡ bit_at (get_or us (i / 64) 0) k

at_others : (us : List ℕ) (i w : ℕ) (v : Bool) (j : ℕ) → i / 64 < length us → Writes us i w v → j ≢ i → is_set (set us (i / 64) w) j ≡ is_set us j
unfolding is_set
at_others us i w v j h write ne =
    elim (cases_eq (j / 64) (i / 64)) [
      | inl e ↦ (let apart : j % 64 ≢ i % 64 = λ f. ne (omega (arith, e, f)) in
          let bits : bit_at w (j % 64) ≡ bit_at (get_or us (i / 64) 0) (j % 64) = write.others (j % 64) (omega arith) apart in
          rw (e, get_or-set_same us (i / 64) w 0 h) (ap (λ x. x == 1) bits))
      | inr away ↦ ap (λ x. bit_at x (j % 64) == 1) (get_or-set_other us (i / 64) (j / 64) w 0 away)
    ]

at_index : (us : List ℕ) (i w : ℕ) (v : Bool) → i / 64 < length us → Writes us i w v → is_set (set us (i / 64) w) i ≡ v
unfolding is_set
at_index us i w v h write = ap (λ x. bit_at x (i % 64) == 1) (get_or-set_same us (i / 64) w 0 h) ∙ write.same

written : {us : List ℕ} {n : ℕ} {xs : List Bool} (i w : ℕ) (v : Bool) → Represents us n xs → i < length xs → Writes us i w v → Represents (set us (i / 64) w) n (set xs i v)
written {us = us} {xs = xs} i w v r h write =
    record {
      len = length-set xs i v ∙ r.len;
      fits = r.fits;
      exact = length-set us (i / 64) w ∙ r.exact;
      each = λ j. elim (cases_eq j i) [
        | inl e ↦ rw (e, get_or-set_same xs i v false h) (at_index us i w v (has_u64 i r h) write)
        | inr ne ↦ at_others us i w v j (has_u64 i r h) write ne ∙ r.each j ∙ sym (get_or-set_other xs i j v false ne)
      ];
    }

pub set_bit : {us : List ℕ} {n : ℕ} {xs : List Bool} (i w : ℕ) → Represents us n xs → i < length xs → w ≡ get_or us (i / 64) w
    → Represents (set us (i / 64) (bit_or w (1 * 2 ^ (i % 64) % 2 ^ 64))) n (set xs i true)
set_bit {us = us} i w r h read =
    let within : i % 64 < 64 = omega arith in
    let same : w ≡ get_or us (i / 64) 0 = get_or_read us (i / 64) w (has_u64 i r h) read 0 in
    written i _ true r h (record {
      same = ap (λ x. x == 1) (bit_at_set_same w64 w (i % 64) within);
      others = λ k _ ne. bit_at_set_other w64 w (i % 64) within k ne ∙ ap (λ x. bit_at x k) same;
    })

pub clear_bit : {us : List ℕ} {n : ℕ} {xs : List Bool} (i w : ℕ) → Represents us n xs → i < length xs → w ≡ get_or us (i / 64) w
    → Represents (set us (i / 64) (bit_and w (bit_not w64 (1 * 2 ^ (i % 64) % 2 ^ 64)))) n (set xs i false)
clear_bit {us = us} i w r h read =
    let within : i % 64 < 64 = omega arith in
    let same : w ≡ get_or us (i / 64) 0 = get_or_read us (i / 64) w (has_u64 i r h) read 0 in
    written i _ false r h (record {
      same = ap (λ x. x == 1) (bit_at_clear_same w64 w (i % 64) within);
      others = λ k less ne. bit_at_clear_other w64 w (i % 64) within k less ne ∙ ap (λ x. bit_at x k) same;
    })
