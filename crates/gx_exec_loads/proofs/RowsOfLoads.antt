-- The rows that a statement loaded, found by a walk along the loads.
use Rattle.std.proofs.Common.{◌≡◌, ℕ, ◌+◌, ◌<◌, length, get_or, cond, eqb, List, [], ◌∷◌, drop, Some, unwrap_or, add-one, refl, ap, ◌∙◌, inl, inr}
use Rattle.std.specs.List.{slice_get}
use Rattle.std.specs.Map.{lookup}
use Rattle.std.proofs.Math.Seq.{drop-cons}
use Rattle.std.proofs.lemmas.Bool.{eq-eqb}
use Rattle.std.proofs.lemmas.Bool.Decides.{eqb_tells}
use Rattle.std.proofs.lemmas.Option.{get_or_from_slice_get, slice_get_within}
use Rattle.gx_load.specs.Loading.{LoadedRow}
use Rattle.gx_model.specs.Values.{LoadedRows, rows_loaded}

item_first : {X : Type 0} (xs : List X) (i : ℕ) (d : X) → i < length xs → drop i xs ≡ get_or xs i d ∷ drop (i + 1) xs
item_first xs i d within = rw (add-one, drop-cons xs i d) refl

-- an entry and those after it
entry_first : {X : Type 0} (xs : List X) (i : ℕ) (x : X) → slice_get xs i ≡ Some x → drop i xs ≡ x ∷ drop (i + 1) xs
entry_first xs i x at = item_first xs i x (slice_get_within xs i x at) ∙ ap (λ y. y ∷ drop (i + 1) xs) (get_or_from_slice_get xs i x x at)

pub loaded_here : (loads : LoadedRows) (i s n : ℕ) (rows : List LoadedRow) → slice_get loads i ≡ Some (n, rows) → n ≡ s → rows_loaded (drop i loads) s ≡ rows
loaded_here loads i s n rows at e =
    ap (λ entries. rows_loaded entries s) (entry_first loads i (n, rows) at)
    ∙ ap (λ b. unwrap_or (cond b (Some rows) (lookup (λ m. eqb m s) (drop (i + 1) loads))) []) (eq-eqb n s e)

pub loaded_later : (loads : LoadedRows) (i s n : ℕ) (rows : List LoadedRow) → slice_get loads i ≡ Some (n, rows) → (n ≡ s → ⊥) → rows_loaded (drop i loads) s ≡ rows_loaded (drop (i + 1) loads) s
loaded_later loads i s n rows at apart =
    ap (λ entries. rows_loaded entries s) (entry_first loads i (n, rows) at)
    ∙ elim (eqb_tells n s) [ inl same ↦ absurd (apart same.1) | inr tells ↦ ap (λ b. unwrap_or (cond b (Some rows) (lookup (λ m. eqb m s) (drop (i + 1) loads))) []) tells.0 ]
