-- The machine of `csv` ends each record between two, and takes at least one byte for it. So the
-- number of turns that `records` takes is enough, and any larger one returns the same records.
use Rattle.std.proofs.Common.{◌≡◌, ◌⊎◌, ◌<◌, ◌≤◌, ℕ, zero, suc, Bool, true, false, if◌then◌else◌, ◌==◌, ◌&&◌, List, [], ◌∷◌, ◌++◌, length, Option, Some, None, refl, ap, inl, inr, arith}
use Rattle.std.proofs.lemmas.Bool.{false≢true}
use Rattle.csv.specs.Machine.{Read, after_end, carriage_return, ends_at_end, ends_with, field_after, fields_after, in_field, is_byte, is_end, next_record, start_field, start_record, step}
use Rattle.csv.specs.Reading.{records_from, records_next}
use Rattle.csv.specs.declared.parser.Action.{Action}
use Rattle.csv.specs.declared.parser.Config.{Config}
use Rattle.csv.specs.declared.parser.State.{State}
use Rattle.csv.specs.declared.parser.State.TheVariants as st
use Rattle.csv.specs.declared.parser.Terminator.{Terminator}
use Rattle.csv.specs.declared.parser.Terminator.TheVariants as term

-- a step that ends a record ends between two
abbrev Lands : State × Action → Type 0
Lands m = is_end m.1 ≡ true → ends_at_end m.0 ≡ false

never : {A : Type 0} → false ≡ true → A
never h = absurd (false≢true h)

either : (test : Bool) (m n : State × Action) → Lands m → Lands n → Lands (if test then m else n)
either true m n f g = f
either false m n f g = g

after_end-lands : (t : Terminator) (c : ℕ) → ends_at_end (after_end t c) ≡ false
after_end-lands term.CRLF c =
    elim (c == carriage_return) as (λ b. ends_at_end (if b then st.AfterCr else st.StartRecord) ≡ false) [ true ↦ refl | false ↦ refl ]
after_end-lands (term.Any t) c = refl

in_field-lands : (cfg : Config) (c : ℕ) → Lands (in_field cfg c)
in_field-lands cfg c =
    either (c == cfg.delimiter) _ _ never
    (either (ends_with cfg.terminator c) _ _ (λ h. after_end-lands cfg.terminator c) never)

start_field-lands : (cfg : Config) (c : ℕ) → Lands (start_field cfg c)
start_field-lands cfg c = either (cfg.quoting && (c == cfg.quote)) _ _ never (in_field-lands cfg c)

start_record-lands : (cfg : Config) (c : ℕ) → Lands (start_record cfg c)
start_record-lands cfg c =
    either (ends_with cfg.terminator c) _ _ never
    (either (is_byte cfg.comment c) _ _ never (start_field-lands cfg c))

step-lands : (cfg : Config) (s : State) (c : ℕ) → Lands (step cfg s c)
step-lands cfg st.StartRecord c = start_record-lands cfg c
step-lands cfg st.StartField c = start_field-lands cfg c
step-lands cfg st.InField c = in_field-lands cfg c
step-lands cfg st.InQuoted c =
    either (cfg.quoting && (c == cfg.quote)) _ _ never
    (either (cfg.quoting && is_byte cfg.escape c) _ _ never never)
step-lands cfg st.InEscape c = never
step-lands cfg st.AfterQuote c =
    either (cfg.quoting && cfg.double_quote && (c == cfg.quote)) _ _ never (in_field-lands cfg c)
step-lands cfg st.InComment c = either (c == 10) _ _ never never
step-lands cfg st.AfterCr c = either (c == 10) _ _ never (start_record-lands cfg c)

-- what a test chose
chosen : (test : Bool) (p q : Read) (rest : Option Read) → (if test then Some q else rest) ≡ Some p → ((test ≡ true) × (q ≡ p)) ⊎ (rest ≡ Some p)
chosen true p q rest e = inl (refl, cc)
chosen false p q rest e = inr e

below_more_bytes : (c : ℕ) (rest : List ℕ) → length rest ≤ length (c ∷ rest)
below_more_bytes c rest = omega arith

-- a record ends between two, and leaves no more bytes than there were
pub next_record-lands : (cfg : Config) (s : State) (fields : List (List ℕ)) (field : List ℕ) (xs : List ℕ) (p : Read)
    → next_record cfg s fields field xs ≡ Some p → (ends_at_end p.1 ≡ false) × (length p.2 ≤ length xs)
unfolding next_record
next_record-lands cfg s fields field [] p e =
    elim (chosen (ends_at_end s) p (fields ++ (field ∷ []), st.StartRecord, []) None e) [
      | inl w ↦ rw (← w.1) (refl, omega arith)
      | inr none ↦ cc none
    ]
next_record-lands cfg s fields field (c ∷ rest) p e =
    let after = step cfg s c in
    elim (chosen (is_end after.1) p (fields_after after.1 fields field, after.0, rest)
    (next_record cfg after.0 (fields_after after.1 fields field) (field_after after.1 c field) rest) e) [
      | inl w ↦ rw (← w.1) (step-lands cfg s c w.0, below_more_bytes c rest)
      | inr more ↦
          let later = next_record-lands cfg after.0 (fields_after after.1 fields field) (field_after after.1 c field) rest p more in
          (later.0, omega (arith, later.1))
    ]

-- a record that starts between two takes a byte
pub next_record-shorter : (cfg : Config) (s : State) (xs : List ℕ) (p : Read)
    → ends_at_end s ≡ false → next_record cfg s [] [] xs ≡ Some p → length p.2 < length xs
unfolding next_record
next_record-shorter cfg s [] p between e = let none : None ≡ Some p = rw between at e in cc none
next_record-shorter cfg s (c ∷ rest) p between e =
    let after = step cfg s c in
    elim (chosen (is_end after.1) p (fields_after after.1 [] [], after.0, rest)
    (next_record cfg after.0 (fields_after after.1 [] []) (field_after after.1 c []) rest) e) [
      | inl w ↦ rw (← w.1) (omega arith)
      | inr more ↦
          let later = next_record-lands cfg after.0 (fields_after after.1 [] []) (field_after after.1 c []) rest p more in
          omega (arith, later.1)
    ]

-- the records after a first one are the same by either number of turns
same_next : (cfg : Config) (n m : ℕ) (o : Option Read)
    → ((p : Read) → o ≡ Some p → records_from cfg n p.1 p.2 ≡ records_from cfg m p.1 p.2)
    → records_next (records_from cfg n) o ≡ records_next (records_from cfg m) o
same_next cfg n m None same = refl
same_next cfg n m (Some p) same = ap (λ rest. p.0 ∷ rest) (same p refl)

-- any number of turns above the number of bytes returns the same records
pub records_from-enough : (cfg : Config) (n m : ℕ) (s : State) (xs : List ℕ)
    → ends_at_end s ≡ false → length xs < n → length xs < m → records_from cfg n s xs ≡ records_from cfg m s xs
unfolding records_from
records_from-enough cfg zero m s xs between ln lm = absurd (omega (arith, ln))
records_from-enough cfg (suc n) zero s xs between ln lm = absurd (omega (arith, lm))
records_from-enough cfg (suc n) (suc m) s xs between ln lm =
    same_next cfg n m (next_record cfg s [] [] xs)
    (λ p e.
    let shorter = next_record-shorter cfg s xs p between e in
    records_from-enough cfg n m p.1 p.2 (next_record-lands cfg s [] [] xs p e).0 (omega arith) (omega arith))
