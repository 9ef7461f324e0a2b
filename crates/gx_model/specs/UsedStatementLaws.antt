-- The statements that a statement uses: ascending, closed under use, and exactly those that it
-- needs.
use Rattle.std.proofs.Common.{
  ◌≡◌,
  ℕ,
  zero,
  suc,
  ◌+◌,
  ◌-◌,
  ◌<◌,
  ◌≤◌,
  Bool,
  true,
  false,
  cond,
  eqb,
  List,
  [],
  ◌∷◌,
  ◌++◌,
  length,
  take,
  reverse,
  Some,
  inl,
  inr,
  refl,
  sym,
  ap,
  ◌∙◌,
  subst,
  arith,
  add-one,
}
use Rattle.std.specs.List.{AllByRecursion, IsAmong, list_any, slice_get}
use Rattle.std.specs.List.Sorted.{IsStrictlyIncreasing}
use Rattle.std.proofs.lemmas.Bool.{cases_lt}
use Rattle.std.proofs.lemmas.List.{length-reverse, length-take, reverse-append, take_more}
use Rattle.std.proofs.lemmas.List.Elements.{recursion_from_All}
use Rattle.std.proofs.lemmas.Option.{get_or_from_slice_get, slice_get_within}
use Rattle.gx_types.specs.Needs.{AreNeeded, IsNeeded, UseEarlier, direct, through}
use Rattle.gx_types_stmts.specs.KnownNames.{IsEarlier}
use Rattle.gx_types_stmts.specs.declared.checked_stmt.CheckedStmt.{CheckedStmt}
use Rattle.gx_model.specs.NamesUsed.{stmts_used, stmts_wanted}
use Rattle.gx_model.specs.NumberListLaws.{
  Ascends,
  Ascends-append,
  Ascends-from_adjacent,
  IsIn,
  all_append,
  all_at,
  all_map,
  among_from_in,
  in_either,
  in_from_among,
  in_from_any,
  in_left,
  in_right,
  not_in_from_any,
  same_ascending,
}

pub item_at : {X : Type 0} (xs : List X) (i : ℕ) → i < length xs
    → (x : X) × (slice_get xs i ≡ Some x)
item_at [] i within = absurd (omega arith)
item_at (x ∷ xs) zero within = (x, refl)
item_at (x ∷ xs) (suc i) within = item_at xs i (omega arith)

-- each number is less than the next
adjacent : (ns : List ℕ) → IsStrictlyIncreasing ns → (i a b : ℕ) → slice_get ns i ≡ Some a
    → slice_get ns (i + 1) ≡ Some b → a < b
adjacent ns increasing i a b at next =
    rw (get_or_from_slice_get ns i a 0 at, get_or_from_slice_get ns (i + 1) b 0 next) at
    (increasing i (slice_get_within ns (i + 1) b next))

module _ (checked : List CheckedStmt) (earlier : UseEarlier checked) where
  -- those of the first k statements that are wanted, and what they use
  abbrev used_from : ℕ → List ℕ → List ℕ
  used_from k wanted = stmts_wanted (reverse (take k checked)) wanted

  used_from-more : (k : ℕ) (c : CheckedStmt) (wanted : List ℕ) → slice_get checked k ≡ Some c
      → used_from (k + 1) wanted
      ≡ cond (list_any (λ n. eqb n (k + 1)) wanted)
      (used_from k (wanted ++ c.uses) ++ (k + 1) ∷ []) (used_from k wanted)
  used_from-more k c wanted at =
      let within : k < length checked = slice_get_within checked k c at in
      let count : length (reverse (take k checked)) ≡ k =
      omega (arith, length-reverse (take k checked), length-take k checked) in
      let taken : take (k + 1) checked ≡ take k checked ++ c ∷ [] =
      take_more checked k c within
      ∙ ap (λ x. take k checked ++ x ∷ []) (get_or_from_slice_get checked k c c at) in
      let latest : reverse (take (k + 1) checked) ≡ c ∷ reverse (take k checked) =
      ap reverse taken ∙ reverse-append (take k checked) (c ∷ []) in
      ap (λ ts. stmts_wanted ts wanted) latest
      ∙ ap (λ m. cond (list_any (λ n. eqb n (m + 1)) wanted)
      (used_from k (wanted ++ c.uses) ++ (m + 1) ∷ []) (used_from k wanted)) count

  used_induction : (P : ℕ → List ℕ → List ℕ → Type 0) → ((wanted : List ℕ) → P 0 wanted [])
      → ((k : ℕ) (c : CheckedStmt) (wanted used : List ℕ) → slice_get checked k ≡ Some c
      → (IsIn (k + 1) wanted → ⊥) → P k wanted used → P (k + 1) wanted used)
      → ((k : ℕ) (c : CheckedStmt) (wanted used : List ℕ) → slice_get checked k ≡ Some c
      → IsIn (k + 1) wanted → P k (wanted ++ c.uses) used
      → P (k + 1) wanted (used ++ (k + 1) ∷ []))
      → (k : ℕ) (wanted : List ℕ) → k ≤ length checked → P k wanted (used_from k wanted)
  used_induction P none skip more zero wanted within = none wanted
  used_induction P none skip more (suc k) wanted within =
      let item = item_at checked k (omega arith) in
      subst (λ n. P n wanted (used_from n wanted)) (add-one k)
      (subst (P (k + 1) wanted) (sym (used_from-more k item.0 wanted item.1))
      (by k item.0 wanted item.1 (λ w. used_induction P none skip more k w (omega arith))
      (list_any (λ n. eqb n (k + 1)) wanted) refl))
    where
      by : (k : ℕ) (c : CheckedStmt) (wanted : List ℕ) → slice_get checked k ≡ Some c
          → ((w : List ℕ) → P k w (used_from k w)) → (b : Bool)
          → list_any (λ n. eqb n (k + 1)) wanted ≡ b
          → P (k + 1) wanted (cond b (used_from k (wanted ++ c.uses) ++ (k + 1) ∷ [])
          (used_from k wanted))
      by k c wanted at rest true e =
          more k c wanted (used_from k (wanted ++ c.uses)) at (in_from_any (k + 1) wanted e)
          (rest (wanted ++ c.uses))
      by k c wanted at rest false e =
          skip k c wanted (used_from k wanted) at (not_in_from_any (k + 1) wanted e) (rest wanted)

  pub statements_are_sound : (k : ℕ) (c : CheckedStmt) (u : ℕ) → slice_get checked k ≡ Some c
      → IsIn u c.uses → IsEarlier k u
  statements_are_sound k c u at is_in =
      all_at (IsEarlier k) u c.uses (recursion_from_All (IsEarlier k) c.uses (earlier k c at)) is_in

  -- of the first k statements, ascending: those that are wanted, with all that they use
  pub record IsClosedList (k : ℕ) (wanted used : List ℕ) : Type 0 where
    pub range : AllByRecursion (λ n. (1 ≤ n) × (n ≤ k)) used
    pub ascends : Ascends used
    pub has_wanted : (n : ℕ) → IsIn n wanted → 1 ≤ n → n ≤ k → IsIn n used
    pub closed : (n : ℕ) (t : CheckedStmt) (u : ℕ) → IsIn n used
        → slice_get checked (n - 1) ≡ Some t → IsIn u t.uses → IsIn u used

  none_closed : (wanted : List ℕ) → IsClosedList 0 wanted []
  none_closed wanted = record {
    range = tt;
    ascends = tt;
    has_wanted = λ n is_in low high. absurd (omega arith);
    closed = λ n t u is_in at uses. is_in;
  }

  skip_closed : (k : ℕ) (c : CheckedStmt) (wanted used : List ℕ) → slice_get checked k ≡ Some c
      → (IsIn (k + 1) wanted → ⊥) → IsClosedList k wanted used → IsClosedList (k + 1) wanted used
  skip_closed k c wanted used at unwanted rest = record {
    range = all_map (λ n. (1 ≤ n) × (n ≤ k)) (λ n. (1 ≤ n) × (n ≤ k + 1))
        (λ n range. (range.0, omega arith)) used rest.range;
    ascends = rest.ascends;
    has_wanted = λ n is_in low high. elim
        (cases_lt k n) [
          | inl last ↦ absurd
              (unwanted (subst (λ m. IsIn m wanted) (last_is n last high) is_in))
          | inr early ↦
              rest.has_wanted n is_in low early
        ];
    closed = rest.closed;
  }
    where
      last_is : (n : ℕ) → k < n → n ≤ k + 1 → n ≡ k + 1
      last_is n low high = omega arith

  more_closed : (k : ℕ) (c : CheckedStmt) (wanted used : List ℕ) → slice_get checked k ≡ Some c
      → IsIn (k + 1) wanted → IsClosedList k (wanted ++ c.uses) used
      → IsClosedList (k + 1) wanted (used ++ (k + 1) ∷ [])
  more_closed k c wanted used at is_wanted rest = record {
    range = all_append (λ n. (1 ≤ n) × (n ≤ k + 1)) used ((k + 1) ∷ [])
        (all_map (λ n. (1 ≤ n) × (n ≤ k)) (λ n. (1 ≤ n) × (n ≤ k + 1))
        (λ n range. (range.0, omega arith)) used rest.range) ((omega arith, omega arith), tt);
    ascends = Ascends-append used (k + 1) rest.ascends
        (all_map (λ n. (1 ≤ n) × (n ≤ k)) (λ n. n < k + 1)
        (λ n range. omega arith) used rest.range);
    has_wanted = λ n is_in low high. elim
        (cases_lt k n) [
          | inl last ↦ in_right n used ((k + 1) ∷ [])
              (inl (last_is n last high))
          | inr early ↦ in_left n used ((k + 1) ∷ [])
              (rest.has_wanted n (in_left n wanted c.uses is_in) low early)
        ];
    closed = λ n t u is_in is_at uses. in_left u used ((k + 1) ∷ [])
        (elim (in_either n used ((k + 1) ∷ []) is_in) [
          | inl early ↦ rest.closed n t u early is_at uses
          | inr last ↦ of_last n t u last is_at uses
        ]);
  }
    where
      last_is : (n : ℕ) → k < n → n ≤ k + 1 → n ≡ k + 1
      last_is n low high = omega arith

      same_stmt : (n : ℕ) (t : CheckedStmt) → n ≡ k + 1 → slice_get checked (n - 1) ≡ Some t → t ≡ c
      same_stmt n t e is_at = let index : n - 1 ≡ k = omega arith in let both : Some t ≡ Some c =
          sym is_at ∙ ap (slice_get checked) index ∙ at in cc

      of_last : (n : ℕ) (t : CheckedStmt) (u : ℕ) → IsIn n ((k + 1) ∷ [])
          → slice_get checked (n - 1) ≡ Some t → IsIn u t.uses → IsIn u used
      of_last n t u (inl e) is_at uses =
          let of_c : IsIn u c.uses =
          subst (λ (s : CheckedStmt). IsIn u s.uses) (same_stmt n t e is_at) uses in
          let early = statements_are_sound k c u at of_c in
          rest.has_wanted u (in_right u wanted c.uses of_c) early.0 early.1
      of_last n t u (inr none) is_at uses = absurd none

  pub used_is_closed : (k : ℕ) (wanted : List ℕ) → k ≤ length checked
      → IsClosedList k wanted (used_from k wanted)
  used_is_closed k wanted within =
      used_induction IsClosedList none_closed skip_closed more_closed k wanted within

  -- ---- nothing else is used

  module _ (Q : ℕ → Type 0) (closed : (n : ℕ) (t : CheckedStmt) (u : ℕ) → Q n
      → slice_get checked (n - 1) ≡ Some t → IsIn u t.uses → Q u) where
    abbrev AllOf : ℕ → List ℕ → List ℕ → Type 0
    AllOf k wanted used = ((n : ℕ) → IsIn n wanted → Q n) → (n : ℕ) → IsIn n used → Q n

    more_of : (k : ℕ) (c : CheckedStmt) (wanted used : List ℕ) → slice_get checked k ≡ Some c
        → IsIn (k + 1) wanted → AllOf k (wanted ++ c.uses) used
        → AllOf (k + 1) wanted (used ++ (k + 1) ∷ [])
    more_of k c wanted used at is_wanted rest of_wanted n is_in =
        elim (in_either n used ((k + 1) ∷ []) is_in)
        [ inl early ↦ rest of_all n early | inr last ↦ of_last n last ]
      where
        index : k + 1 - 1 ≡ k
        index = omega arith

        of_all : (m : ℕ) → IsIn m (wanted ++ c.uses) → Q m
        of_all m is_in = elim
            (in_either m wanted c.uses is_in) [
              | inl left ↦ of_wanted m left
              | inr right ↦ closed
                  (k + 1) c m (of_wanted (k + 1) is_wanted) (ap (slice_get checked) index ∙ at) right
            ]

        of_last : (m : ℕ) → IsIn m ((k + 1) ∷ []) → Q m
        of_last m (inl e) = subst Q (sym e) (of_wanted (k + 1) is_wanted)
        of_last m (inr none) = absurd none

    used_only : (k : ℕ) (wanted : List ℕ) → k ≤ length checked → AllOf k wanted (used_from k wanted)
    used_only k wanted within =
        used_induction AllOf (λ w of_wanted n is_in. absurd is_in)
        (λ k c w used at unwanted rest. rest) more_of k wanted within

  -- ---- needs

  module _ (s : ℕ) (c : CheckedStmt) (from_one : 1 ≤ s)
      (at : slice_get checked (s - 1) ≡ Some c) where
    within : s - 1 ≤ length checked
    within = let less = slice_get_within checked (s - 1) c at in omega arith

    pub stmts_used-closed : IsClosedList (s - 1) c.uses (stmts_used checked s)
    stmts_used-closed = rw at (used_is_closed (s - 1) c.uses within)

    is_needed-in : (u : ℕ) → IsNeeded checked s u → IsIn u (used_from (s - 1) c.uses)
    is_needed-in u (direct uses) = by uses.statement uses.is_statement uses.is_used
      where
        by : (t : CheckedStmt) → slice_get checked (s - 1) ≡ Some t → IsAmong t.uses u
            → IsIn u (used_from (s - 1) c.uses)
        by t is_at among =
            let both : Some t ≡ Some c = sym is_at ∙ at in
            let same : t ≡ c = cc in
            let is_in : IsIn u c.uses =
            subst (λ (x : CheckedStmt). IsIn u x.uses) same (in_from_among u t.uses among) in
            let early = statements_are_sound (s - 1) c u at is_in in
            (used_is_closed (s - 1) c.uses within).has_wanted u is_in early.0 early.1
    is_needed-in v (through {u} needed uses) =
        (used_is_closed (s - 1) c.uses within).closed u uses.statement v
        (is_needed-in u needed) uses.is_statement
        (in_from_among v uses.statement.uses uses.is_used)

    of_uses : (u : ℕ) → IsIn u c.uses → IsNeeded checked s u
    of_uses u is_in = direct
        (record {
          from_one = from_one;
          statement = c;
          is_statement = at;
          is_used =
              among_from_in u c.uses is_in;
        })

    needed_only : (u : ℕ) → IsIn u (used_from (s - 1) c.uses) → (1 ≤ u) × IsNeeded checked s u
    needed_only u is_in =
        used_only (λ n. (1 ≤ n) × IsNeeded checked s n)
        (λ n t m needed is_at uses. (
          (statements_are_sound (n - 1) t m is_at uses).0,
          through needed.1
              (record {
                from_one = needed.0;
                statement = t;
                is_statement = is_at;
                is_used =
                    among_from_in m t.uses uses;
              }),
        ))
        (s - 1) c.uses within
        (λ n is_in. ((statements_are_sound (s - 1) c n at is_in).0, of_uses n is_in))
        u is_in

    -- all that is needed, ascending, is what the definition computes
    pub stmts_used-needed : (needs : List ℕ) → AreNeeded checked s needs
        → needs ≡ stmts_used checked s
    stmts_used-needed needs are = rw at
        (same_ascending needs (used_from (s - 1) c.uses)
        (Ascends-from_adjacent needs (adjacent needs are.ascending))
        (used_is_closed (s - 1) c.uses within).ascends
        (λ u is_in. is_needed-in u (are.sound u (among_from_in u needs is_in)))
        (λ u is_in. in_from_among u needs (are.complete u (needed_only u is_in).1)))
