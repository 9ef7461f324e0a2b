-- Actions among statements.
use Rattle.std.proofs.Common.{◌≡◌, ℕ, zero, suc, ◌+◌, ◌≤◌, ◌<◌, true, false, Bool, List, [], ◌∷◌, ◌++◌, length, take, drop, refl, ◌∙◌, ap, arith}
use Rattle.std.specs.Prelude.{IsSome, filter, is_some}
use Rattle.std.specs.List.{range_with_len}
use Rattle.std.proofs.lemmas.List.Elements.{filter-append}
use Rattle.gx_exec.specs.Engines.{action_answer}
use Rattle.gx_model.specs.ScriptMeaning.{Loaded}
use Rattle.gx_run.specs.ActionLogs.{actions_among, actions_of}
use Rattle.gx_run.proofs.ActionCourses.{AllFromOne}

-- ---- one statement

pub is_among : (l : Loaded) (s : ℕ) → IsSome (action_answer l s) → actions_among l (s ∷ []) ≡ s ∷ []
is_among l s is = rw is refl

pub not_among : (l : Loaded) (s : ℕ) → is_some (action_answer l s) ≡ false → actions_among l (s ∷ []) ≡ []
not_among l s is = rw is refl

-- ---- the actions among the first statements

from_one_filter : (p : ℕ → Bool) (xs : List ℕ) → AllFromOne xs → AllFromOne (filter p xs)
from_one_filter p [] h = tt
from_one_filter p (x ∷ xs) h = by_test (p x) refl (from_one_filter p xs h.1)
  where
    by_test : (t : Bool) → p x ≡ t → AllFromOne (filter p xs) → AllFromOne (filter p (x ∷ xs))
    by_test true is k = rw is (h.0, k)
    by_test false is k = rw is k

from_one_drop : (n : ℕ) (xs : List ℕ) → AllFromOne xs → AllFromOne (drop n xs)
from_one_drop zero xs h = h
from_one_drop (suc n) [] h = tt
from_one_drop (suc n) (x ∷ xs) h = from_one_drop n xs h.1

from_one_range : (a n : ℕ) → 1 ≤ a → AllFromOne (range_with_len a n)
from_one_range a zero h = tt
from_one_range a (suc n) h = (h, from_one_range (a + 1) n (omega (arith, h)))

range_more : (a n j : ℕ) → a + n ≡ j → range_with_len a (suc n) ≡ range_with_len a n ++ j ∷ []
range_more a zero j e = let same : a ≡ j = omega (arith, e) in ap (λ k. k ∷ []) same
range_more a (suc n) j e = ap (λ ks. a ∷ ks) (range_more (a + 1) n j (omega (arith, e)))

take_range : (a n k : ℕ) → k ≤ n → take k (range_with_len a n) ≡ range_with_len a k
take_range a n zero le = refl
take_range a zero (suc k) le = absurd (omega (arith, le))
take_range a (suc n) (suc k) le = ap (λ ks. a ∷ ks) (take_range (a + 1) n k (omega (arith, le)))

take_and_drop : {X : Type 0} (n : ℕ) (xs : List X) → xs ≡ take n xs ++ drop n xs
take_and_drop zero xs = refl
take_and_drop (suc n) [] = refl
take_and_drop (suc n) (x ∷ xs) = ap (λ ys. x ∷ ys) (take_and_drop n xs)

-- the actions among the statements from number n + 2 on
abbrev pub actions_after : Loaded → ℕ → List ℕ
actions_after l n = actions_among l (drop (n + 1) (range_with_len 1 (length l.checked)))

pub after_from_one : (l : Loaded) (n : ℕ) → AllFromOne (actions_after l n)
after_from_one l n =
    from_one_filter (λ s. is_some (action_answer l s)) (drop (n + 1) (range_with_len 1 (length l.checked)))
    (from_one_drop (n + 1) (range_with_len 1 (length l.checked)) (from_one_range 1 (length l.checked) (omega arith)))

pub single_from_one : (l : Loaded) (n : ℕ) → AllFromOne (actions_among l ((n + 1) ∷ []))
single_from_one l n = from_one_filter (λ s. is_some (action_answer l s)) ((n + 1) ∷ []) (omega arith, tt)

pub actions_more : (l : Loaded) (n : ℕ)
    → actions_among l (range_with_len 1 (n + 1)) ≡ actions_among l (range_with_len 1 n) ++ actions_among l ((n + 1) ∷ [])
actions_more l n =
    let on : n + 1 ≡ suc n = omega arith in
    let range : range_with_len 1 (n + 1) ≡ range_with_len 1 n ++ (n + 1) ∷ [] = ap (range_with_len 1) on ∙ range_more 1 n (n + 1) (omega arith) in
    ap (actions_among l) range ∙ filter-append (λ s. is_some (action_answer l s)) (range_with_len 1 n) ((n + 1) ∷ [])

pub actions_parted : (l : Loaded) (n : ℕ) → n < length l.checked
    → actions_of l ≡ (actions_among l (range_with_len 1 n) ++ actions_among l ((n + 1) ∷ [])) ++ actions_after l n
actions_parted l n within =
    let all = range_with_len 1 (length l.checked) in
    let front : take (n + 1) all ≡ range_with_len 1 (n + 1) = take_range 1 (length l.checked) (n + 1) (omega (arith, within)) in
    ap (actions_among l) (take_and_drop (n + 1) all ∙ ap (λ ns. ns ++ drop (n + 1) all) front)
    ∙ filter-append (λ s. is_some (action_answer l s)) (range_with_len 1 (n + 1)) (drop (n + 1) all)
    ∙ ap (λ ns. ns ++ actions_after l n) (actions_more l n)
