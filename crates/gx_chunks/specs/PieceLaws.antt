-- Laws of pieces of a list, for whoever walks rows chunk by chunk.
use Rattle.std.specs.Prelude.{◌≡◌, ℕ, zero, suc, ◌+◌, List, [], ◌∷◌, Option, Some, drop, slice_get}
use Rattle.std.proofs.Common.{ap, sym, ◌∙◌}
use Rattle.std.proofs.lemmas.List.{drop-drop}
use Rattle.gx_chunks.specs.Chunks.{IsPieceAt}

-- the first item of a piece
pub slice_get-piece : {A : Type 0} (xs : List A) (i : ℕ) (x : A) (piece : List A)
    → IsPieceAt i (x ∷ piece) xs → slice_get xs i ≡ Some x
slice_get-piece xs i x piece at = first xs i at.split
  where
    first : {A : Type 0} {x : A} {rest : List A} (xs : List A) (i : ℕ)
        → drop i xs ≡ x ∷ rest → slice_get xs i ≡ Some x
    first [] zero split = cc
    first [] (suc i) split = cc
    first (y ∷ ys) zero split = cc
    first (y ∷ ys) (suc i) split = first ys i split

-- the items after it
pub IsPieceAt-rest : {A : Type 0} (xs : List A) (i : ℕ) (x : A) (piece : List A)
    → IsPieceAt i (x ∷ piece) xs → IsPieceAt (i + 1) piece xs
IsPieceAt-rest xs i x piece at = record {
  rest = at.rest;
  split = sym (drop-drop 1 i xs) ∙ ap (drop 1) at.split;
}
