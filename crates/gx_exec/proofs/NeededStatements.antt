-- The statements that a statement uses may be forced in order.
use Rattle.std.proofs.Common.{◌≡◌, ℕ, ◌-◌, ◌<◌, ◌≤◌, List, [], ◌∷◌, length, Some, ◌⊎◌, inl, inr, IfOk, Result, Ok, Err, unwrap_or, option_map, refl, sym, ap, ◌∙◌, subst, arith}
use Rattle.std.specs.List.{AllByRecursion, slice_get}
use Rattle.std.proofs.lemmas.Option.{get_or_from_slice_get, slice_get_within}
use Rattle.gx_types.specs.Needs.{AreNeeded, NamesAreUsed}
use Rattle.gx_types_stmts.specs.StmtNumbers.{named_numbers}
use Rattle.gx_types_stmts.specs.declared.checked_stmt.CheckedStmt.{CheckedStmt}
use Rattle.gx_types_stmts.specs.declared.typed_stmt.TypedStmt.TheVariants as stmts
use Rattle.gx_model.specs.NamesUsed.{stmts_used}
use Rattle.gx_model.specs.NumberListLaws.{Ascends, IsIn, all_at}
use Rattle.gx_model.specs.UsedStatementLaws.{IsClosedList, item_at, stmts_used-closed, stmts_used-needed, statements_are_sound}
use Rattle.gx_plan.specs.Plans.{IsAdded, Planned}
use Rattle.gx_plan.specs.StmtNodes.{statement_of}
use Rattle.gx_exec_contents.specs.Worlds.{IsWorld, World}
use Rattle.gx_exec.specs.Engines.{MayForce}

-- of these statements, the rest is still to be added, in ascending order
pub record AreForcedTo (needs rest : List ℕ) (p : Planned) : Type 0 where
  pub ascends : Ascends rest
  pub listed : (n : ℕ) → IsIn n rest → IsIn n needs
  pub done : (n : ℕ) → IsIn n needs → IsIn n rest ⊎ IsAdded p n

all-from : (P : ℕ → Type 0) (ns : List ℕ) → ((n : ℕ) → IsIn n ns → P n) → AllByRecursion P ns
all-from P [] each = tt
all-from P (n ∷ ns) each = (each n (inl refl), all-from P ns (λ m is_in. each m (inr is_in)))

not-later : (s n : ℕ) (ss : List ℕ) → Ascends (s ∷ ss) → n < s → IsIn n (s ∷ ss) → ⊥
not-later s n ss ascends less (inl same) = omega (arith, same, less)
not-later s n ss ascends less (inr later) = let above : s < n = all_at (λ m. s < m) n ss ascends.0 later in omega (arith, above, less)

pub AreForcedTo-more : (needs : List ℕ) (s : ℕ) (ss : List ℕ) (p q : Planned) → ((n : ℕ) → IsAdded p n → IsAdded q n) → IsAdded q s → AreForcedTo needs (s ∷ ss) p → AreForcedTo needs ss q
AreForcedTo-more needs s ss p q kept added so_far = record {
  ascends = so_far.ascends.1;
  listed = λ n is_in. so_far.listed n (inr is_in);
  done = λ n is_in. elim (so_far.done n is_in) [ inl left ↦ by n left | inr before ↦ inr (kept n before) ];
}
  where
    by : (n : ℕ) → IsIn n (s ∷ ss) → IsIn n ss ⊎ IsAdded q n
    by n (inl same) = inr (subst (IsAdded q) (sym same) added)
    by n (inr later) = inl later

module _ (w : World) (world : IsWorld w) where
  stmt_at : (n : ℕ) → 1 ≤ n → n ≤ length w.script → (c : CheckedStmt) × (slice_get w.script (n - 1) ≡ Some c)
  stmt_at n low high = item_at w.script (n - 1) (omega (arith, low, high))

  -- what a statement names is what it uses
  names-are : (n : ℕ) (c : CheckedStmt) → slice_get w.script (n - 1) ≡ Some c → named_numbers (statement_of w.script n) ≡ c.uses
  names-are n c at =
      let used : NamesAreUsed c = subst NamesAreUsed (get_or_from_slice_get w.script (n - 1) c c at) (world.named (n - 1) c (slice_get_within w.script (n - 1) c at)) in
      ap (λ o. named_numbers (unwrap_or (option_map (λ t. t.stmt) o) (stmts.CountTable 0))) at ∙ sym used

  module _ (a : ℕ) (low : 1 ≤ a) (high : a ≤ length w.script) where
    pub used-closed : IsClosedList w.script world.earlier (a - 1) (item_at w.script (a - 1) (let within : a - 1 < length w.script = omega (arith, low, high) in within)).0.uses (stmts_used w.script a)
    used-closed =
        let item = item_at w.script (a - 1) (let within : a - 1 < length w.script = omega (arith, low, high) in within) in
        stmts_used-closed w.script world.earlier a item.0 low item.1

    pub used-range : (n : ℕ) → IsIn n (stmts_used w.script a) → (1 ≤ n) × (n ≤ a - 1)
    used-range n is_in = all_at (λ m. (1 ≤ m) × (m ≤ a - 1)) n (stmts_used w.script a) used-closed.range is_in

    pub used-low : AllByRecursion (λ s. 1 ≤ s) (stmts_used w.script a)
    used-low = all-from (λ s. 1 ≤ s) (stmts_used w.script a) (λ n is_in. (used-range n is_in).0)

    pub AreForcedTo-none : (p : Planned) → AreForcedTo (stmts_used w.script a) (stmts_used w.script a) p
    AreForcedTo-none p = record { ascends = used-closed.ascends; listed = λ n is_in. is_in; done = λ n is_in. inl is_in }

    -- the next one
    pub next-may : (p : Planned) (s : ℕ) (ss : List ℕ) → AreForcedTo (stmts_used w.script a) (s ∷ ss) p → MayForce (record { world = w; planned = p }) s
    next-may p s ss so_far =
        let is_in : IsIn s (stmts_used w.script a) = so_far.listed s (inl refl) in
        let range = used-range s is_in in
        let within : s ≤ length w.script = omega (arith, range.1, low, high) in
        let item = stmt_at s range.0 within in
        record {
          from_one = range.0;
          within = within;
          named = subst (AllByRecursion (IsAdded p)) (sym (names-are s item.0 item.1))
              (all-from (IsAdded p) item.0.uses
              (λ u uses.
              let early = statements_are_sound w.script world.earlier (s - 1) item.0 u item.1 uses in
              let less : u < s = omega (arith, early.0, early.1, range.0) in
              elim (so_far.done u (used-closed.closed s item.0 u is_in item.1 uses)) [
                | inl left ↦ absurd (not-later s u ss so_far.ascends less left)
                | inr added ↦ added
              ]));
        }

    -- and, after all of them, the statement itself
    pub last-may : (p : Planned) → AreForcedTo (stmts_used w.script a) [] p → MayForce (record { world = w; planned = p }) a
    last-may p so_far =
        let item = item_at w.script (a - 1) (let within : a - 1 < length w.script = omega (arith, low, high) in within) in
        record {
          from_one = low;
          within = high;
          named = subst (AllByRecursion (IsAdded p)) (sym (names-are a item.0 item.1))
              (all-from (IsAdded p) item.0.uses
              (λ u uses.
              let early = statements_are_sound w.script world.earlier (a - 1) item.0 u item.1 uses in
              elim (so_far.done u (used-closed.has_wanted u uses early.0 early.1)) [
                | inl left ↦ absurd left
                | inr added ↦ added
              ]));
        }

    pub needs-used : (r : List ℕ) → AreNeeded w.script a r → r ≡ stmts_used w.script a
    needs-used r are =
        let item = item_at w.script (a - 1) (let within : a - 1 < length w.script = omega (arith, low, high) in within) in
        stmts_used-needed w.script world.earlier a item.0 low item.1 r are

pub if_ok-map : {A E : Type 0} (P Q : A → Type 0) (r : Result A E) → ((a : A) → P a → Q a) → IfOk r P → IfOk r Q
if_ok-map P Q (Ok a) h p = h a p
if_ok-map P Q (Err e) h p = tt
