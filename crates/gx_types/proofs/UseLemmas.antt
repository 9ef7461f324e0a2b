-- Statements that use earlier ones alone.
use Rattle.std.proofs.Common.{◌≡◌, ℕ, zero, suc, ◌⊎◌, inl, inr, All, Some, List, [], ◌∷◌, ◌++◌, length, slice_get, refl, sym, ap, subst}
use Rattle.gx_types.specs.Needs.{UseEarlier}
use Rattle.gx_types_stmts.specs.KnownNames.{IsEarlier}
use Rattle.gx_types_stmts.specs.declared.checked_stmt.CheckedStmt.{CheckedStmt}

pub pushed-at : {A : Type 0} (xs : List A) (x : A) (i : ℕ) (y : A) → slice_get (xs ++ x ∷ []) i ≡ Some y → (slice_get xs i ≡ Some y) ⊎ ((i ≡ length xs) × (y ≡ x))
pushed-at [] x zero y e = inr (refl, cc)
pushed-at [] x (suc i) y e = cc
pushed-at (a ∷ xs) x zero y e = inl e
pushed-at (a ∷ xs) x (suc i) y e = elim (pushed-at xs x i y e) [ inl old ↦ inl old | inr new ↦ inr (ap suc new.0, new.1) ]

pub earlier-push : (ts : List CheckedStmt) (t : CheckedStmt) → UseEarlier ts → All (IsEarlier (length ts)) t.uses → UseEarlier (ts ++ t ∷ [])
earlier-push ts t h one i u e =
    elim (pushed-at ts t i u e) [
      | inl old ↦ h i u old
      | inr new ↦ subst (λ n. All (IsEarlier n) u.uses) (sym new.0) (subst (λ (v : CheckedStmt). All (IsEarlier (length ts)) v.uses) (sym new.1) one)
    ]
