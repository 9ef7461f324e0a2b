-- A list that is cut into chunks of one size.
use Rattle.std.specs.Prelude.{◌≡◌, ℕ, ◌≤◌, List, [], ◌∷◌, ◌++◌, drop, length, map, ⊤, refl, Vec}
use Rattle.std.specs.Global.{Global}
use Rattle.std.specs.List.{AllByRecursion}
use Rattle.std.specs.declared.rc.Rc.{Rc}

-- the items of the chunks, in order
abbrev pub items_of_chunks : {A : Type 0} → List (List A) → List A
items_of_chunks [] = []
items_of_chunks (c ∷ cs) = c ++ items_of_chunks cs

-- each chunk but the last has `size` items, and the last has no more
abbrev pub HasChunksOf : {A : Type 0} → ℕ → List (List A) → Type 0
HasChunksOf size [] = ⊤
HasChunksOf size (c ∷ []) = length c ≤ size
HasChunksOf size (c ∷ d ∷ cs) = (length c ≡ size) × HasChunksOf size (d ∷ cs)

-- chunks that are full, and one more that need not be
pub record HasFullChunks {A : Type 0} (size : ℕ) (full : List (List A)) (last : List A) : Type 0 where
  pub each_full : AllByRecursion (λ c. length c ≡ size) full
  pub not_over : length last ≤ size

-- the items of shared vectors
abbrev pub shared_chunks : {A : Type 0} → List (Rc (Vec A Global) Global) → List (List A)
shared_chunks chunks = map (λ c. c.value.items) chunks

-- `piece` is the items from position i on, but for the last ones
pub record IsPieceAt {A : Type 0} (i : ℕ) (piece items : List A) : Type 0 where
  pub rest : List A
  pub split : drop i items ≡ piece ++ rest

items_of_chunks-example : items_of_chunks {A = ℕ} ((1 ∷ 2 ∷ []) ∷ (3 ∷ []) ∷ []) ≡ 1 ∷ 2 ∷ 3 ∷ []
items_of_chunks-example = refl
