-- Masks of one value.
use Rattle.std.proofs.Common.{◌≡◌, ◌≢◌, ℕ, ◌-◌, ◌*◌, ◌/◌, ◌%◌, ◌^◌, ◌<◌, ◌==◌, Bool, true, false, List, length, get_or, set, replicate, nat_lt, inl, inr, ap, sym, ◌∙◌, arith}
use Rattle.std.specs.Int.{bit_at, div_ceil}
use Rattle.std.proofs.lemmas.Bool.{cases_eq, cases_lt, cases_order, le-ltb, lt-ltb}
use Rattle.std.proofs.lemmas.List.{get_or-replicate, get_or-set_other, get_or-set_same, get_or_past, length-replicate, length-set}
use Rattle.std.proofs.lemmas.Nat.{one_shl}
use Rattle.std.proofs.lemmas.Nat.Bits.{bit_at-zero, bit_at_ones, bit_at_ones_above}
use Rattle.gx_mask.specs.U64s.{is_set}
use Rattle.gx_mask.proofs.Represents.{Represents}

in_zero : (us : List ℕ) (i : ℕ) → get_or us (i / 64) 0 ≡ 0 → is_set us i ≡ false
unfolding is_set
in_zero us i e = ap (λ x. bit_at x (i % 64) == 1) e ∙ ap (λ x. x == 1) (bit_at-zero (i % 64))

in_ones : (us : List ℕ) (i : ℕ) → get_or us (i / 64) 0 ≡ 2 ^ 64 - 1 → is_set us i ≡ true
unfolding is_set
in_ones us i e = ap (λ x. bit_at x (i % 64) == 1) e ∙ ap (λ x. x == 1) (bit_at_ones 64 (i % 64) (omega arith))

in_low_ones : (us : List ℕ) (n i : ℕ) → i / 64 ≡ n / 64 → get_or us (i / 64) 0 ≡ 2 ^ (n % 64) - 1 → is_set us i ≡ nat_lt i n
unfolding is_set
in_low_ones us n i same e =
    ap (λ x. bit_at x (i % 64) == 1) e ∙ elim (cases_lt i n) [
      | inl less ↦ ap (λ x. x == 1) (bit_at_ones (n % 64) (i % 64) (omega arith)) ∙ sym (lt-ltb i n less)
      | inr more ↦ ap (λ x. x == 1) (bit_at_ones_above (n % 64) (i % 64) (omega arith)) ∙ sym (le-ltb i n more)
    ]

get_or-replicate_default : {A : Type 0} (n i : ℕ) (d : A) → get_or (replicate n d) i d ≡ d
get_or-replicate_default {A = A} n i d =
    elim (cases_lt i n) [ inl less ↦ get_or-replicate n i d d less | inr more ↦ get_or_past (replicate n d) i d (omega (arith, length-replicate {A = A} n d, more)) ]

get_or-replicate_true : (n i : ℕ) → get_or (replicate n true) i false ≡ nat_lt i n
get_or-replicate_true n i =
    elim (cases_lt i n) [
      | inl less ↦ get_or-replicate n i true false less ∙ sym (lt-ltb i n less)
      | inr more ↦ get_or_past (replicate n true) i false (omega (arith, length-replicate {A = Bool} n true, more)) ∙ sym (le-ltb i n more)
    ]

pub all_false : {us : List ℕ} (n : ℕ) → n < 2 ^ 32 → us ≡ replicate (div_ceil n 64) 0 → Represents us n (replicate n false)
all_false n fits made =
    let k : ℕ = div_ceil n 64 in
    rw made (record {
      len = length-replicate n false;
      fits = fits;
      exact = length-replicate k 0;
      each = λ i. in_zero (replicate k 0) i (get_or-replicate_default k (i / 64) 0) ∙ sym (get_or-replicate_default n i false);
    })

-- u64s of ones, of which a last one has the remaining bits alone
all_true : (us : List ℕ) (n : ℕ) → n < 2 ^ 32 → length us ≡ div_ceil n 64 → ((q : ℕ) → q < n / 64 → get_or us q 0 ≡ 2 ^ 64 - 1)
    → (n % 64 ≢ 0 → get_or us (n / 64) 0 ≡ 2 ^ (n % 64) - 1) → Represents us n (replicate n true)
all_true us n fits long whole last =
    record {
      len = length-replicate n true;
      fits = fits;
      exact = long;
      each = λ i. elim (cases_order (i / 64) (n / 64)) [
        | inl same ↦ elim (cases_eq (n % 64) 0) [
          | inl none ↦ in_zero us i (get_or_past us (i / 64) 0 (omega (arith, long, same, none))) ∙ sym (le-ltb i n (omega (arith, same, none)))
          | inr some ↦ in_low_ones us n i same (ap (λ q. get_or us q 0) same ∙ last some)
        ]
        | inr (inl less) ↦ in_ones us i (whole (i / 64) less) ∙ sym (lt-ltb i n (omega (arith, less)))
        | inr (inr more) ↦ in_zero us i (get_or_past us (i / 64) 0 (omega (arith, long, more))) ∙ sym (le-ltb i n (omega (arith, more)))
      ] ∙ sym (get_or-replicate_true n i);
    }

pub all_true_whole : {us : List ℕ} (n : ℕ) → n < 2 ^ 32 → us ≡ replicate (div_ceil n 64) (2 ^ 64 - 1) → n % 64 ≡ 0 → Represents us n (replicate n true)
all_true_whole n fits made none =
    let k : ℕ = div_ceil n 64 in
    rw made (all_true (replicate k (2 ^ 64 - 1)) n fits (length-replicate k (2 ^ 64 - 1)) (λ q h. get_or-replicate k q (2 ^ 64 - 1) 0 (omega (arith, h))) (λ some. absurd (some none)))

pub all_true_part : (ones : List ℕ) (n : ℕ) → n < 2 ^ 32 → ones ≡ replicate (div_ceil n 64) (2 ^ 64 - 1) → n % 64 ≢ 0
    → Represents (set ones (n / 64) (1 * 2 ^ (n % 64) % 2 ^ 64 - 1)) n (replicate n true)
all_true_part ones n fits made some =
    let k : ℕ = div_ceil n 64 in
    let last : ℕ = 1 * 2 ^ (n % 64) % 2 ^ 64 - 1 in
    let long : length ones ≡ k = rw made (length-replicate k (2 ^ 64 - 1)) in
    let whole : (q : ℕ) → q < k → get_or ones q 0 ≡ 2 ^ 64 - 1 = λ q h. rw made (get_or-replicate k q (2 ^ 64 - 1) 0 h) in
    all_true (set ones (n / 64) last) n fits (length-set ones (n / 64) last ∙ long)
    (λ q h. get_or-set_other ones (n / 64) q last 0 (λ e. omega (arith, e, h)) ∙ whole q (omega (arith, h)))
    (λ _. get_or-set_same ones (n / 64) last 0 (omega (arith, long, some)) ∙ ap (λ x. x - 1) (one_shl (n % 64) 64 (omega arith)))
