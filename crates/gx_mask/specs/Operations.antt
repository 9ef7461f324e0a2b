-- The operations of a mask, on lists of bools.
use Rattle.std.specs.Prelude.{◌≡◌, ℕ, Bool, true, false, not, ◌&&◌, List, [], ◌∷◌, map, drop, Option, Some, refl}
use Rattle.std.specs.List.{position_from, zip}

-- index by index, whether both are true
abbrev pub and : List Bool → List Bool → List Bool
and xs ys = map (λ p. p.0 && p.1) (zip xs ys)

-- index by index, whether the first is true and the second is not
abbrev pub and_not : List Bool → List Bool → List Bool
and_not xs ys = map (λ p. p.0 && not p.1) (zip xs ys)

-- the first index from `from` on that is true
abbrev pub next_true : ℕ → List Bool → Option ℕ
next_true from xs = position_from (λ b. b) from (drop from xs)

pub and-example : and (true ∷ true ∷ false ∷ []) (true ∷ false ∷ true ∷ []) ≡ true ∷ false ∷ false ∷ []
and-example = refl

pub and_not-example : and_not (true ∷ true ∷ false ∷ []) (true ∷ false ∷ true ∷ []) ≡ false ∷ true ∷ false ∷ []
and_not-example = refl

pub next_true-example : next_true 1 (true ∷ false ∷ true ∷ []) ≡ Some 2
next_true-example = refl
