-- The true indices are counted u64 by u64.
use Rattle.std.proofs.Common.{◌≡◌, ℕ, zero, suc, ◌+◌, ◌*◌, ◌^◌, ◌<◌, ◌≤◌, ◌==◌, Bool, false, cond, List, drop, take, length, get_or, count_by, count_ones, Fits, w32, ap, sym, ◌∙◌, refl, arith}
use Rattle.std.specs.Int.{bit_at}
use lib.Lanes.{mask_l}
use Rattle.std.proofs.Math.Nat.{pow-le-pow_right}
use Rattle.std.proofs.Math.Seq.{take-add}
use Rattle.std.proofs.lemmas.List.{get_or-drop, get_or-take, length-take, map-id, take_all}
use Rattle.std.proofs.lemmas.List.Sums.{count_by-le-length, sum_by-append}
use Rattle.std.proofs.lemmas.Nat.Bits.{bit_at-lt, same_from_bits_below}
use Rattle.std.proofs.lemmas.Simd.{bit_mask_l, mask_l-lt, ones-mask_l}
use Rattle.gx_mask.proofs.Represents.{Represents, in_u64}

-- how many are true
abbrev trues : List Bool → ℕ
trues xs = count_by (λ b. b) xs

-- the bools of u64 q
abbrev bools_at : ℕ → List Bool → List Bool
bools_at q xs = take 64 (drop (64 * q) xs)

digit : (x : ℕ) → x < 2 → cond (x == 1) 1 0 ≡ x
digit zero p = refl
digit (suc zero) p = refl
digit (suc (suc x)) p = absurd (omega arith)

mask-bools_at : {us : List ℕ} {n : ℕ} {xs : List Bool} (q : ℕ) → Represents us n xs → get_or us q 0 < 2 ^ 64 → mask_l (bools_at q xs) ≡ get_or us q 0
mask-bools_at {us = us} {xs = xs} q r fits =
    let bs : List Bool = bools_at q xs in
    let short : length bs ≤ 64 = omega (arith, length-take 64 (drop (64 * q) xs)) in
    let below : mask_l bs < 2 ^ 64 = omega (arith, mask_l-lt bs, pow-le-pow_right {n = 2} (omega arith) short) in
    same_from_bits_below 64 (mask_l bs) (get_or us q 0) below fits
    (λ k less. bit_mask_l bs k
    ∙ ap (λ b. cond b 1 0) (get_or-take 64 (drop (64 * q) xs) k false less ∙ get_or-drop (64 * q) xs k false ∙ sym (r.each (64 * q + k)) ∙ in_u64 us q k less)
    ∙ digit (bit_at (get_or us q 0) k) (bit_at-lt (get_or us q 0) k))

trues_more : {us : List ℕ} {n : ℕ} {xs : List Bool} (q : ℕ) → Represents us n xs → get_or us q 0 < 2 ^ 64
    → trues (take (64 * (q + 1)) xs) ≡ trues (take (64 * q) xs) + count_ones (get_or us q 0)
trues_more {us = us} {xs = xs} q r fits =
    let next : 64 * (q + 1) ≡ 64 * q + 64 = omega arith in
    let ones : count_ones (get_or us q 0) ≡ trues (bools_at q xs) =
    ap count_ones (sym (mask-bools_at q r fits)) ∙ ap (λ bs. count_ones (mask_l bs)) (sym (map-id (bools_at q xs))) ∙ ones-mask_l (λ b. b) (bools_at q xs) in
    ap (λ k. trues (take k xs)) next
    ∙ ap trues (take-add (64 * q) 64 xs)
    ∙ sum_by-append (λ b. cond b 1 0) (take (64 * q) xs) (bools_at q xs)
    ∙ ap (λ x. trues (take (64 * q) xs) + x) (sym ones)

-- the true indices of the first q u64s
pub record IsCountOf (xs : List Bool) (q total : ℕ) : Type 0 where
  pub so_far : total ≡ trues (take (64 * q) xs)

-- vs are the same u64s, as the loop names them
pub count_fits : {us : List ℕ} {n : ℕ} {xs : List Bool} (vs : List ℕ) (q total : ℕ) → Represents us n xs → IsCountOf xs q total → vs ≡ us
    → get_or vs q 0 < 2 ^ 64 → Fits w32 (total + count_ones (get_or vs q 0))
count_fits {xs = xs} vs q total r c same fits =
    let next : ℕ = 64 * (q + 1) in
    let more : trues (take next xs) ≡ trues (take (64 * q) xs) + count_ones (get_or vs q 0) = rw same (trues_more q r (rw same at fits)) in
    omega (arith, more, c.so_far, count_by-le-length (λ b. b) (take next xs), length-take next xs, r.len, r.fits)

pub count_more : {us : List ℕ} {n : ℕ} {xs : List Bool} (vs : List ℕ) (q total : ℕ) → Represents us n xs → IsCountOf xs q total → vs ≡ us
    → get_or vs q 0 < 2 ^ 64 → IsCountOf xs (q + 1) (total + count_ones (get_or vs q 0))
count_more vs q total r c same fits = rw same (record { so_far = omega (arith, trues_more q r (rw same at fits), c.so_far) })

pub count_all : {us : List ℕ} {n : ℕ} {xs : List Bool} (q total : ℕ) → Represents us n xs → IsCountOf xs q total → length us ≤ q → total ≡ trues xs
count_all {xs = xs} q total r c all = c.so_far ∙ ap trues (take_all (64 * q) xs (omega (arith, r.len, r.exact, all)))
