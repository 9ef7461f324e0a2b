-- Marks that are set one after the other, and the marked numbers.
use Rattle.std.proofs.Common.{◌≡◌, ℕ, zero, suc, ◌+◌, ◌<◌, ◌≤◌, ◌⊎◌, inl, inr, Bool, true, false, List, [], ◌∷◌, ◌++◌, length, drop, set, get_or, slice_index, add-zero, refl, sym, ap, subst, ◌∙◌, arith}
use Rattle.std.specs.List.{IsAmong}
use Rattle.std.specs.List.Sorted.{IsStrictlyIncreasing}
use Rattle.std.proofs.lemmas.List.{append-nil, append_assoc, drop_all, drop_more, get_or-set_same}
use Rattle.gx_types.specs.Marks.{IsMarked, marked_numbers}

-- ---- members

among-here : (x : ℕ) (xs : List ℕ) → IsAmong (x ∷ xs) x
among-here x xs = (0, (omega arith, refl))

among-there : (x v : ℕ) (xs : List ℕ) → IsAmong xs v → IsAmong (x ∷ xs) v
among-there x v xs (i, (below, is)) = (suc i, (omega arith, is))

among-cases : (x v : ℕ) (xs : List ℕ) → IsAmong (x ∷ xs) v → (v ≡ x) ⊎ IsAmong xs v
among-cases x v xs (zero, (below, is)) = inl is
among-cases x v xs (suc i, (below, is)) = inr (i, (omega arith, is))

-- ---- setting a mark

set-kept : (marks : List Bool) (n u : ℕ) → IsMarked marks u → IsMarked (set marks n true) u
set-kept [] n u h = h
set-kept (b ∷ marks) zero zero h = refl
set-kept (b ∷ marks) zero (suc u) h = h
set-kept (b ∷ marks) (suc n) zero h = h
set-kept (b ∷ marks) (suc n) (suc u) h = set-kept marks n u h

set-marked : (marks : List Bool) (n : ℕ) → n < length marks → IsMarked (set marks n true) n
set-marked marks n below = get_or-set_same marks n true false below

set-only : (marks : List Bool) (n u : ℕ) → IsMarked (set marks n true) u → IsMarked marks u ⊎ (u ≡ n)
set-only [] n u h = inl h
set-only (b ∷ marks) zero zero h = inr refl
set-only (b ∷ marks) zero (suc u) h = inl h
set-only (b ∷ marks) (suc n) zero h = inl h
set-only (b ∷ marks) (suc n) (suc u) h = elim (set-only marks n u h) [ inl old ↦ inl old | inr e ↦ inr (ap suc e) ]

-- the first i numbers are marked
pub record HaveMarked (numbers : List ℕ) (i : ℕ) (old new : List Bool) : Type 0 where
  pub as_long : length new ≡ length old
  pub kept : (u : ℕ) → IsMarked old u → IsMarked new u
  pub first : (k u : ℕ) → k < i → k < length numbers → u ≡ get_or numbers k u → IsMarked new u
  pub only : (u : ℕ) → IsMarked new u → IsMarked old u ⊎ IsAmong numbers u

-- ---- the marked numbers

-- the marked numbers of the first i marks
pub record AreListed (marks : List Bool) (i : ℕ) (numbers : List ℕ) : Type 0 where
  pub so_far : numbers ++ marked_numbers i (drop i marks) ≡ marked_numbers 0 marks

pub listed-marked : (marks : List Bool) (i : ℕ) (numbers more : List ℕ) (b : Bool) → i < length marks → b ≡ get_or marks i b → AreListed marks i numbers → b ≡ true → more ≡ numbers ++ i ∷ [] → AreListed marks (i + 1) more
listed-marked marks i numbers more b below is h marked added =
    let split : drop i marks ≡ true ∷ drop (i + 1) marks = drop_more marks i b below ∙ ap (λ c. c ∷ drop (i + 1) marks) (sym is ∙ marked) in
    let step : numbers ++ marked_numbers i (drop i marks) ≡ (numbers ++ i ∷ []) ++ marked_numbers (i + 1) (drop (i + 1) marks) = ap (λ ms. numbers ++ marked_numbers i ms) split ∙ rw append_assoc refl in
    record { so_far = ap (λ ns. ns ++ marked_numbers (i + 1) (drop (i + 1) marks)) added ∙ sym step ∙ h.so_far }

pub listed-unmarked : (marks : List Bool) (i : ℕ) (numbers : List ℕ) (b : Bool) → i < length marks → b ≡ get_or marks i b → AreListed marks i numbers → b ≡ false → AreListed marks (i + 1) numbers
listed-unmarked marks i numbers b below is h marked =
    let split : drop i marks ≡ false ∷ drop (i + 1) marks = drop_more marks i b below ∙ ap (λ c. c ∷ drop (i + 1) marks) (sym is ∙ marked) in
    record { so_far = sym (ap (λ ms. numbers ++ marked_numbers i ms) split) ∙ h.so_far }

pub listed-all : (marks : List Bool) (i : ℕ) (numbers : List ℕ) → length marks ≤ i → AreListed marks i numbers → numbers ≡ marked_numbers 0 marks
listed-all marks i numbers past h =
    let none : marked_numbers i (drop i marks) ≡ [] = ap (marked_numbers i) (drop_all i marks past) in
    sym (append-nil numbers) ∙ ap (λ ns. numbers ++ ns) (sym none) ∙ h.so_far

-- they are the marked ones
pub listed-complete : (n u : ℕ) (marks : List Bool) → IsMarked marks u → IsAmong (marked_numbers n marks) (n + u)
listed-complete n u [] h = cc
listed-complete n zero (true ∷ marks) h = rw add-zero (among-here n (marked_numbers (n + 1) marks))
listed-complete n zero (false ∷ marks) h = cc
listed-complete n (suc u) (true ∷ marks) h =
    let e : n + 1 + u ≡ n + suc u = omega arith in
    subst (IsAmong (n ∷ marked_numbers (n + 1) marks)) e (among-there n (n + 1 + u) (marked_numbers (n + 1) marks) (listed-complete (n + 1) u marks h))
listed-complete n (suc u) (false ∷ marks) h =
    let e : n + 1 + u ≡ n + suc u = omega arith in
    subst (IsAmong (marked_numbers (n + 1) marks)) e (listed-complete (n + 1) u marks h)

pub listed-sound : (n v : ℕ) (marks : List Bool) → IsAmong (marked_numbers n marks) v → (u : ℕ) × ((v ≡ n + u) × IsMarked marks u)
listed-sound n v [] h = absurd (omega (arith, h.1.0))
listed-sound n v (true ∷ marks) h =
    elim (among-cases n v (marked_numbers (n + 1) marks) h) [
      | inl e ↦ (0, (omega (arith, e), refl))
      | inr r ↦ (let s = listed-sound (n + 1) v marks r in (suc s.0, (omega (arith, s.1.0), s.1.1)))
    ]
listed-sound n v (false ∷ marks) h = let s = listed-sound (n + 1) v marks h in (suc s.0, (omega (arith, s.1.0), s.1.1))

-- they ascend
first-above : (n : ℕ) (marks : List Bool) → 0 < length (marked_numbers n marks) → n ≤ slice_index (marked_numbers n marks) 0
first-above n [] h = absurd (omega (arith, h))
first-above n (true ∷ marks) h = omega arith
first-above n (false ∷ marks) h = omega (arith, first-above (n + 1) marks h)

pub listed-ascending : (n : ℕ) (marks : List Bool) → IsStrictlyIncreasing (marked_numbers n marks)
listed-ascending n [] k h = absurd (omega (arith, h))
listed-ascending n (true ∷ marks) zero h = omega (arith, first-above (n + 1) marks (omega (arith, h)))
listed-ascending n (true ∷ marks) (suc k) h =
    let e : suc (k + 1) ≡ suc k + 1 = omega arith in
    let ns = marked_numbers (n + 1) marks in
    let next : slice_index ns k < slice_index ns (k + 1) = listed-ascending (n + 1) marks k (omega (arith, h)) in
    subst (λ j. slice_index ns k < slice_index (n ∷ ns) j) e next
listed-ascending n (false ∷ marks) k h = listed-ascending (n + 1) marks k h
