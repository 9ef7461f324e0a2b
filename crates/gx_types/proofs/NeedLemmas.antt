-- Uses that are followed from the last statement down.
use Rattle.std.proofs.Common.{◌≡◌, ℕ, zero, suc, ◌-◌, ◌<◌, ◌≤◌, ◌⊎◌, inl, inr, Bool, false, All, Some, List, [], ◌∷◌, length, replicate, IfOk, Result, Ok, Err, Vec, Global, get_or, slice_get, sym, ap, subst, ◌∙◌, arith}
use Rattle.std.specs.List.{IsAmong}
use Rattle.std.proofs.lemmas.Bool.{cases_lt}
use Rattle.gx_rows.specs.declared.no_memory.NoMemory.{NoMemory}
use Rattle.gx_types.specs.Marks.{Follows, IsMarked, MarksEach, MarksUses, marked_numbers}
use Rattle.gx_types.specs.Needs.{AreNeeded, IsNeeded, UseEarlier, Uses}
use Rattle.gx_types.specs.Needs.IsNeeded.{direct, through}
use Rattle.gx_types_stmts.specs.KnownNames.{IsEarlier}
use Rattle.gx_types_stmts.specs.declared.checked_stmt.CheckedStmt.{CheckedStmt}
use Rattle.gx_types.proofs.MarkLemmas.{listed-ascending, listed-complete, listed-sound}

-- a used statement is an earlier one
pub used-earlier : (ts : List CheckedStmt) (s u : ℕ) → UseEarlier ts → Uses ts s u → (1 ≤ u) × (u < s)
used-earlier ts s u earlier h =
    let one : IsEarlier (s - 1) (get_or h.statement.uses h.is_used.0 u) = earlier (s - 1) h.statement h.is_statement h.is_used.0 u h.is_used.1.0 in
    let this : IsEarlier (s - 1) u = subst (IsEarlier (s - 1)) (sym h.is_used.1.1) one in
    (this.0, omega (arith, this.1, h.from_one))

-- what a statement uses fits the marks
pub uses-fit : (ts : List CheckedStmt) (s room : ℕ) (t : CheckedStmt) → UseEarlier ts → 1 ≤ s → slice_get ts (s - 1) ≡ Some t → s ≤ room → All (λ n. n < room) t.uses
uses-fit ts s room t earlier from_one is fits k d below =
    let one : IsEarlier (s - 1) (get_or t.uses k d) = earlier (s - 1) t is k d below in
    omega (arith, one.1)

same-statement : (ts : List CheckedStmt) (s u : ℕ) (t : CheckedStmt) → slice_get ts (s - 1) ≡ Some t → Uses ts s u → IsAmong t.uses u
same-statement ts s u t is h =
    let same : h.statement ≡ t = cc (h.is_statement, is) in
    subst (λ (x : CheckedStmt). IsAmong x.uses u) same h.is_used

pub uses-marked : (ts : List CheckedStmt) (s : ℕ) (t : CheckedStmt) (old new : List Bool) → 1 ≤ s → slice_get ts (s - 1) ≡ Some t → MarksEach t.uses old new → MarksUses ts s old new
uses-marked ts s t old new from_one is h = record {
  kept = h.kept;
  each = λ u used. h.each u (same-statement ts s u t is used);
  only = λ u marked. elim (h.only u marked) [
    | inl before ↦ inl before
    | inr among ↦ inr (record { from_one = from_one; statement = t; is_statement = is; is_used = among })
  ];
}

-- what statement s uses is marked, and so is what the marked statements from i on use
pub record AreFollowed (ts : List CheckedStmt) (s i : ℕ) (marks : List Bool) : Type 0 where
  pub from_one : 1 ≤ i
  pub within : i ≤ s
  pub as_long : length marks ≡ s
  pub sound : (u : ℕ) → IsMarked marks u → IsNeeded ts s u
  pub first : (u : ℕ) → Uses ts s u → IsMarked marks u
  pub closed : (u v : ℕ) → i ≤ u → IsMarked marks u → Uses ts u v → IsMarked marks v

-- no mark is set past the end
marked-within : (marks : List Bool) (u : ℕ) → IsMarked marks u → u < length marks
marked-within [] u h = cc
marked-within (b ∷ marks) zero h = omega arith
marked-within (b ∷ marks) (suc u) h = omega (arith, marked-within marks u h)

pub none-marked : (n u : ℕ) → IsMarked (replicate n false) u → ⊥
none-marked zero u h = cc
none-marked (suc n) zero h = cc
none-marked (suc n) (suc u) h = none-marked n u h

pub followed-first : (ts : List CheckedStmt) (s : ℕ) (old new : List Bool) → 1 ≤ s → ((u : ℕ) → IsMarked old u → ⊥) → length new ≡ s → MarksUses ts s old new → AreFollowed ts s s new
followed-first ts s old new from_one none long h = record {
  from_one = from_one;
  within = omega arith;
  as_long = long;
  sound = λ u marked. elim (h.only u marked) [ inl before ↦ absurd (none u before) | inr used ↦ direct used ];
  first = h.each;
  closed = λ u v below marked used. let within : u < length new = marked-within new u marked in absurd (omega arith);
}

pub followed-next : (ts : List CheckedStmt) (s i : ℕ) (old new : List Bool) → UseEarlier ts → 1 < i → length new ≡ length old → AreFollowed ts s i old → Follows ts (i - 1) old new → AreFollowed ts s (i - 1) new
followed-next ts s i old new earlier above long h next = record {
  from_one = omega arith;
  within = omega (arith, h.within);
  as_long = long ∙ h.as_long;
  sound = λ u marked. elim (next.only u marked) [ inl before ↦ h.sound u before | inr used ↦ through (h.sound (i - 1) used.0) used.1 ];
  first = λ u used. next.kept u (h.first u used);
  closed = λ u v at marked used. closed-next u v at (next.only u marked) used;
}
  where
    closed-next : (u v : ℕ) → i - 1 ≤ u → IsMarked old u ⊎ (IsMarked old (i - 1) × Uses ts (i - 1) u) → Uses ts u v → IsMarked new v
    closed-next u v at (inr new-one) used = let before = used-earlier ts (i - 1) u earlier new-one.1 in absurd (omega (arith, before.1))
    closed-next u v at (inl before) used =
        elim (cases_lt u i) [
          | inl below ↦ (let e : u ≡ i - 1 = omega arith in
              next.each (subst (IsMarked old) e before) v (subst (λ w. Uses ts w v) e used))
          | inr past ↦ next.kept v (h.closed u v past before used)
        ]

-- all that is needed is marked
pub followed-all : (ts : List CheckedStmt) (s i : ℕ) (marks : List Bool) → UseEarlier ts → i ≤ 1 → AreFollowed ts s i marks → (u : ℕ) → IsNeeded ts s u → (1 ≤ u) × IsMarked marks u
followed-all ts s i marks earlier at h u (direct used) = ((used-earlier ts s u earlier used).0, h.first u used)
followed-all ts s i marks earlier at h v (through {u = u} needed used) =
    let before = followed-all ts s i marks earlier at h u needed in
    ((used-earlier ts u v earlier used).0, h.closed u v (omega (arith, before.0)) before.1 used)

pub needs-listed : (ts : List CheckedStmt) (s i : ℕ) (marks : List Bool) → UseEarlier ts → i ≤ 1 → AreFollowed ts s i marks → AreNeeded ts s (marked_numbers 0 marks)
needs-listed ts s i marks earlier at h = record {
  ascending = listed-ascending 0 marks;
  complete = λ u needed. subst (IsAmong (marked_numbers 0 marks)) (omega arith) (listed-complete 0 u marks (followed-all ts s i marks earlier at h u needed).1);
  sound = λ u among. (let found = listed-sound 0 u marks among in
      let same : found.0 ≡ u = omega (arith, found.1.0) in
      h.sound u (subst (IsMarked marks) same found.1.1));
}

pub needs-returned : (ts : List CheckedStmt) (s i : ℕ) (marks lent : List Bool) (r : Result (Vec ℕ Global) NoMemory) → UseEarlier ts → i ≤ 1 → AreFollowed ts s i marks → lent ≡ marks
    → IfOk r (λ numbers. numbers.items ≡ marked_numbers 0 lent) → IfOk r (λ needs. AreNeeded ts s needs.items)
needs-returned ts s i marks lent (Ok ns) earlier at h same is =
    subst (AreNeeded ts s) (sym (is ∙ ap (marked_numbers 0) same)) (needs-listed ts s i marks earlier at h)
needs-returned ts s i marks lent (Err e) earlier at h same is = tt
