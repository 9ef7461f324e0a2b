-- Laws of lists by position, for loops that walk a list from the front.
use Rattle.std.specs.Prelude.{◌≡◌, ℕ, ◌+◌, ◌<◌, List, [], ◌∷◌, ◌++◌}
use Rattle.std.specs.Prelude.{Some, drop, get_or, length, slice_get}
use Rattle.std.proofs.Common.{◌∙◌, ap, append_assoc, sym}
use Rattle.std.proofs.lemmas.List.{drop_more}
use Rattle.std.proofs.lemmas.Option.{get_or_from_slice_get, slice_get_within}

-- the items from a position on are the item there, and then those from the next position on
pub drop-next : {X : Type 0} (xs : List X) (i : ℕ) (d : X) → i < length xs
    → drop i xs ≡ get_or xs i d ∷ drop (i + 1) xs
drop-next xs i d within = drop_more xs i d within

pub drop-at : {X : Type 0} (xs : List X) (i : ℕ) (x : X) → slice_get xs i ≡ Some x
    → drop i xs ≡ x ∷ drop (i + 1) xs
drop-at xs i x at =
    drop-next xs i x (slice_get_within xs i x at)
    ∙ ap (λ y. y ∷ drop (i + 1) xs) (get_or_from_slice_get xs i x x at)

-- an item that moves from the rest to the front changes nothing
pub append-next : {X : Type 0} (front xs : List X) (i : ℕ) (x : X) → slice_get xs i ≡ Some x
    → (front ++ x ∷ []) ++ drop (i + 1) xs ≡ front ++ drop i xs
append-next front xs i x at =
    append_assoc front (x ∷ []) (drop (i + 1) xs) ∙ ap (λ ys. front ++ ys) (sym (drop-at xs i x at))
