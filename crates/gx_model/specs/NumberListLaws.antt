-- Lists of numbers: what is in them, and that ascending ones are known by that.
use Rattle.std.proofs.Common.{
  ◌≡◌,
  ℕ,
  zero,
  suc,
  ◌+◌,
  ◌<◌,
  true,
  false,
  eqb,
  List,
  [],
  ◌∷◌,
  ◌++◌,
  length,
  Some,
  ◌⊎◌,
  inl,
  inr,
  refl,
  sym,
  ap,
  ap₂,
  ◌∙◌,
  subst,
  arith,
}
use Rattle.std.specs.List.{AllByRecursion, IsAmong, list_any, slice_get, slice_index_or}
use Rattle.std.proofs.lemmas.Bool.Decides.{eqb_tells}

-- a number is in a list
abbrev pub IsIn : ℕ → List ℕ → Type 0
IsIn n [] = ⊥
IsIn n (m ∷ ms) = (n ≡ m) ⊎ IsIn n ms

pub in_from_among : (n : ℕ) (ns : List ℕ) → IsAmong ns n → IsIn n ns
in_from_among n ns among = by ns among.0 among.1.0 among.1.1
  where
    by : (ns : List ℕ) (i : ℕ) → i < length ns → n ≡ slice_index_or ns i n → IsIn n ns
    by [] i within at = absurd (omega arith)
    by (m ∷ ms) zero within at = inl at
    by (m ∷ ms) (suc i) within at = inr (by ms i (omega arith) at)

pub among_from_in : (n : ℕ) (ns : List ℕ) → IsIn n ns → IsAmong ns n
among_from_in n [] is_in = absurd is_in
among_from_in n (m ∷ ms) (inl e) = (0, (omega arith, e))
among_from_in n (m ∷ ms) (inr more) =
    let rest = among_from_in n ms more in
    (suc rest.0, (omega arith, rest.1.1))

pub all_at : (P : ℕ → Type 0) (n : ℕ) (ns : List ℕ) → AllByRecursion P ns → IsIn n ns → P n
all_at P n [] all is_in = absurd is_in
all_at P n (m ∷ ms) all (inl e) = subst P (sym e) all.0
all_at P n (m ∷ ms) all (inr more) = all_at P n ms all.1 more

pub all_map : (P Q : ℕ → Type 0) → ((n : ℕ) → P n → Q n) → (ns : List ℕ) → AllByRecursion P ns
    → AllByRecursion Q ns
all_map P Q h [] all = tt
all_map P Q h (n ∷ ns) all = (h n all.0, all_map P Q h ns all.1)

pub all_append : (P : ℕ → Type 0) (ns ms : List ℕ) → AllByRecursion P ns → AllByRecursion P ms
    → AllByRecursion P (ns ++ ms)
all_append P [] ms all more = more
all_append P (n ∷ ns) ms all more = (all.0, all_append P ns ms all.1 more)

pub in_left : (n : ℕ) (ns ms : List ℕ) → IsIn n ns → IsIn n (ns ++ ms)
in_left n [] ms is_in = absurd is_in
in_left n (k ∷ ns) ms (inl e) = inl e
in_left n (k ∷ ns) ms (inr more) = inr (in_left n ns ms more)

pub in_right : (n : ℕ) (ns ms : List ℕ) → IsIn n ms → IsIn n (ns ++ ms)
in_right n [] ms is_in = is_in
in_right n (k ∷ ns) ms is_in = inr (in_right n ns ms is_in)

pub in_either : (n : ℕ) (ns ms : List ℕ) → IsIn n (ns ++ ms) → IsIn n ns ⊎ IsIn n ms
in_either n [] ms is_in = inr is_in
in_either n (k ∷ ns) ms (inl e) = inl (inl e)
in_either n (k ∷ ns) ms (inr more) =
    elim (in_either n ns ms more) [ inl left ↦ inl (inr left) | inr right ↦ inr right ]

-- ---- the test

pub in_from_any : (m : ℕ) (ns : List ℕ) → list_any (λ n. eqb n m) ns ≡ true → IsIn m ns
in_from_any m [] any = cc
in_from_any m (n ∷ ns) any =
    elim (eqb_tells n m) [
      | inl same ↦ inl (sym same.1)
      | inr apart ↦ inr
          (in_from_any m ns (rw apart.0 at any))
    ]

pub not_in_from_any : (m : ℕ) (ns : List ℕ) → list_any (λ n. eqb n m) ns ≡ false → IsIn m ns → ⊥
not_in_from_any m [] any is_in = is_in
not_in_from_any m (n ∷ ns) any (inl e) =
    elim (eqb_tells n m) [ inl same ↦ by (rw same.0 at any) | inr apart ↦ apart.1 (sym e) ]
  where
    by : true ≡ false → ⊥
    by e = cc
not_in_from_any m (n ∷ ns) any (inr more) =
    elim (eqb_tells n m) [
      | inl same ↦ by (rw same.0 at any)
      | inr apart ↦ not_in_from_any m ns
          (rw apart.0 at any) more
    ]
  where
    by : true ≡ false → ⊥
    by e = cc

-- ---- ascending lists

abbrev pub Ascends : List ℕ → Type 0
Ascends [] = Unit {0}
Ascends (n ∷ ns) = AllByRecursion (λ m. n < m) ns × Ascends ns

pub Ascends-append : (ns : List ℕ) (m : ℕ) → Ascends ns → AllByRecursion (λ n. n < m) ns
    → Ascends (ns ++ m ∷ [])
Ascends-append [] m ascends below = (tt, tt)
Ascends-append (n ∷ ns) m ascends below = (
  all_append (λ k. n < k) ns (m ∷ []) ascends.0 (below.0, tt),
  Ascends-append ns m ascends.1 below.1,
)

pub Ascends-from_adjacent : (ns : List ℕ)
    → ((i a b : ℕ) → slice_get ns i ≡ Some a → slice_get ns (i + 1) ≡ Some b → a < b) → Ascends ns
Ascends-from_adjacent [] adjacent = tt
Ascends-from_adjacent (n ∷ []) adjacent = (tt, tt)
Ascends-from_adjacent (n ∷ m ∷ ns) adjacent =
    let less = adjacent 0 n m refl refl in
    let rest = Ascends-from_adjacent (m ∷ ns) (λ i a b at next. let e : suc i + 1 ≡ suc (i + 1) =
    omega arith in adjacent (suc i) a b at (ap (slice_get (n ∷ m ∷ ns)) e ∙ next)) in
    ((less, all_map (λ k. m < k) (λ k. n < k) (λ k above. omega arith) ns rest.0), rest)

-- ascending lists with the same numbers are equal
pub same_ascending : (ns ms : List ℕ) → Ascends ns → Ascends ms → ((k : ℕ) → IsIn k ns → IsIn k ms)
    → ((k : ℕ) → IsIn k ms → IsIn k ns) → ns ≡ ms
same_ascending [] [] a b there back = refl
same_ascending [] (m ∷ ms) a b there back = absurd (back m (inl refl))
same_ascending (n ∷ ns) [] a b there back = absurd (there n (inl refl))
same_ascending (n ∷ ns) (m ∷ ms) a b there back =
    let head : n ≡ m = first n ns m ms a b there back in
    ap₂ (λ k ks. k ∷ ks) head
    (same_ascending ns ms a.1 b.1 (rest n ns m ms a b head there)
    (rest m ms n ns b a (sym head) back))
  where
    first : (n : ℕ) (ns : List ℕ) (m : ℕ) (ms : List ℕ) → Ascends (n ∷ ns) → Ascends (m ∷ ms)
        → ((k : ℕ) → IsIn k (n ∷ ns) → IsIn k (m ∷ ms))
        → ((k : ℕ) → IsIn k (m ∷ ms) → IsIn k (n ∷ ns)) → n ≡ m
    first n ns m ms a b there back =
        elim (there n (inl refl)) [
          | inl e ↦ e
          | inr later ↦ elim
              (back m (inl refl)) [
                | inl e ↦ sym e
                | inr after ↦ absurd
                    (apart (all_at (λ k. m < k) n ms b.0 later) (all_at (λ k. n < k) m ns a.0 after))
              ]
        ]
      where
        apart : m < n → n < m → ⊥
        apart p q = omega arith

    rest : (n : ℕ) (ns : List ℕ) (m : ℕ) (ms : List ℕ) → Ascends (n ∷ ns) → Ascends (m ∷ ms) → n ≡ m
        → ((k : ℕ) → IsIn k (n ∷ ns) → IsIn k (m ∷ ms)) → (k : ℕ) → IsIn k ns → IsIn k ms
    rest n ns m ms a b head there k is_in =
        elim (there k (inr is_in)) [
          | inl e ↦ absurd
              (apart (all_at (λ j. n < j) k ns a.0 is_in) head e)
          | inr more ↦ more
        ]
      where
        apart : n < k → n ≡ m → k ≡ m → ⊥
        apart p q r = omega arith
