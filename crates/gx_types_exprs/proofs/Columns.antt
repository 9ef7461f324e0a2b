-- Positions of columns.
use Rattle.std.proofs.Common.{◌≡◌, ℕ, ◌+◌, ◌<◌, Bool, true, false, cond, Option, Some, List, [], ◌∷◌, length, arith}
use Rattle.std.proofs.lemmas.List.{length-map}
use Rattle.std.specs.List.{position_from}
use Rattle.gx_rows.specs.Columns.{Column, names_of, position_of}

found-at : (b : Bool) (i n r : ℕ) (later : Option ℕ) → (later ≡ Some r → r < i + 1 + n) → cond b (Some i) later ≡ Some r → r < i + (n + 1)
found-at true i n r later below found = let same : i ≡ r = cc in omega arith
found-at false i n r later below found = omega (arith, below found)

found-below : {A : Type 0} (test : A → Bool) (i : ℕ) (xs : List A) (r : ℕ) → position_from test i xs ≡ Some r → r < i + length xs
found-below test i [] r e = cc
found-below test i (x ∷ xs) r e =
    let below : r < i + (length xs + 1) = found-at (test x) i (length xs) r (position_from test (i + 1) xs) (found-below test (i + 1) xs r) e in
    omega arith

-- the position of a column is one of the columns
pub position-below : (name : List ℕ) (columns : List Column) (r : ℕ) → position_of name (names_of columns) ≡ Some r → r < length columns
position-below name columns r e = omega (arith, found-below _ 0 (names_of columns) r e, length-map columns (λ (c : Column). c.0))
