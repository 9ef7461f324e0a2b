-- Parts together are the whole.
use Rattle.std.proofs.Common.{◌≡◌, ℕ, zero, suc, ◌+◌, ◌<◌, ◌≤◌, ◌==◌, ◌%◌, Bool, true, false, cond, List, [], ◌∷◌, ◌++◌, map, refl, sym, ap, ap₂, ◌∙◌, subst, arith}
use Rattle.std.proofs.Math.Nat.{mod-lt}
use Rattle.std.proofs.lemmas.Bool.Decides.{nat_tests}
use Rattle.std.specs.List.{AllByRecursion, filter, flat_map, range_with_len}
use Rattle.std.specs.List.Sorted.{IsPermutation}
use Rattle.std.proofs.lemmas.List.{map-append}
use Rattle.std.proofs.lemmas.List.Sorted.{IsPermutation-append_right, IsPermutation-cons, IsPermutation-map, IsPermutation-middle, IsPermutation-refl, IsPermutation-sym, IsPermutation-trans}
use Rattle.gx_cuts.specs.Mixing.{mix_of}
use Rattle.gx_model.specs.Graphs.{Vertex, plain_edges}
use Rattle.gx_rows.specs.Order.{Edge}
use Rattle.gx_exec_contents.specs.PartContents.{part_of_edges, part_of_vertices}
use Rattle.gx_exec_contents.specs.PartEndLaws.{ArePlaced}

no_pieces : {X : Type 0} (js : List ℕ) → flat_map {A = X} (λ j. []) js ≡ []
no_pieces [] = refl
no_pieces (j ∷ js) = no_pieces js

module _ {X : Type 0} (x : X) (k : ℕ) (pieces : ℕ → List X) where
  -- the pieces with x at the front of piece k
  abbrev with_item : ℕ → List X
  with_item j = cond (k == j) (x ∷ pieces j) (pieces j)

  -- pieces after piece k are as they were
  later-pieces : (a n : ℕ) → k < a → flat_map with_item (range_with_len a n) ≡ flat_map pieces (range_with_len a n)
  later-pieces a zero after = refl
  later-pieces a (suc n) after =
      let apart : (k == a) ≡ false = grind (arith, nat_tests) in
      ap₂ (λ ys zs. ys ++ zs) (ap (λ b. cond b (x ∷ pieces a) (pieces a)) apart) (later-pieces (a + 1) n (omega arith))

  item-in_front : (a n : ℕ) → a ≤ k → k < a + n → IsPermutation (flat_map with_item (range_with_len a n)) (x ∷ flat_map pieces (range_with_len a n))
  item-in_front a zero from below = absurd (omega arith)
  item-in_front a (suc n) from below =
      by (k == a) refl
      (λ here. later-pieces (a + 1) n (let same : k ≡ a = grind (arith, nat_tests) in omega arith))
      (λ apart. item-in_front (a + 1) n (let other : k ≡ a → ⊥ = (λ e. absurd (grind (arith, nat_tests))) in grind arith) (omega arith))
    where
      by : (b : Bool) → (k == a) ≡ b
          → ((k == a) ≡ true → flat_map with_item (range_with_len (a + 1) n) ≡ flat_map pieces (range_with_len (a + 1) n))
          → ((k == a) ≡ false → IsPermutation (flat_map with_item (range_with_len (a + 1) n)) (x ∷ flat_map pieces (range_with_len (a + 1) n)))
          → IsPermutation (cond b (x ∷ pieces a) (pieces a) ++ flat_map with_item (range_with_len (a + 1) n)) (x ∷ (pieces a ++ flat_map pieces (range_with_len (a + 1) n)))
      by true e same more = subst (λ zs. IsPermutation (x ∷ (pieces a ++ zs)) (x ∷ (pieces a ++ flat_map pieces (range_with_len (a + 1) n)))) (sym (same e)) (IsPermutation-refl _)
      by false e same more =
          IsPermutation-trans (pieces a ++ flat_map with_item (range_with_len (a + 1) n)) (pieces a ++ x ∷ flat_map pieces (range_with_len (a + 1) n)) (x ∷ (pieces a ++ flat_map pieces (range_with_len (a + 1) n)))
          (IsPermutation-append_right (pieces a) (flat_map with_item (range_with_len (a + 1) n)) (x ∷ flat_map pieces (range_with_len (a + 1) n)) (more e))
          (IsPermutation-middle (pieces a) x (flat_map pieces (range_with_len (a + 1) n)))

module _ {X : Type 0} (of : X → ℕ) (parts : ℕ) where
  abbrev pub piece : List X → ℕ → List X
  piece xs j = filter (λ x. of x == j) xs

  -- all items, part by part, are the items in some order
  pub parts-permute : (xs : List X) → AllByRecursion (λ x. of x < parts) xs → IsPermutation xs (flat_map (piece xs) (range_with_len 0 parts))
  parts-permute [] placed = subst (IsPermutation []) (sym (no_pieces (range_with_len 0 parts))) (IsPermutation-refl [])
  parts-permute (x ∷ xs) placed =
      IsPermutation-trans (x ∷ xs) (x ∷ flat_map (piece xs) (range_with_len 0 parts)) (flat_map (piece (x ∷ xs)) (range_with_len 0 parts))
      (IsPermutation-cons x xs (flat_map (piece xs) (range_with_len 0 parts)) (parts-permute xs placed.1))
      (IsPermutation-sym (flat_map (piece (x ∷ xs)) (range_with_len 0 parts)) (x ∷ flat_map (piece xs) (range_with_len 0 parts))
      (item-in_front x (of x) (piece xs) 0 parts (omega arith) (let below : of x < parts = placed.0 in omega arith)))

all-in_range : (parts : ℕ) → 0 < parts → (vertices : List Vertex) → AllByRecursion (λ v. mix_of v.0.0 % parts < parts) vertices
all-in_range parts some [] = tt
all-in_range parts some (v ∷ vertices) = (mod-lt (mix_of v.0.0) some, all-in_range parts some vertices)

-- the parts of a table together are the table, in some order
pub table-is_its_parts : (parts : ℕ) → 0 < parts → (vertices : List Vertex)
    → IsPermutation vertices (flat_map (λ j. part_of_vertices parts j vertices) (range_with_len 0 parts))
table-is_its_parts parts some vertices = parts-permute (λ v. mix_of v.0.0 % parts) parts vertices (all-in_range parts some vertices)

map-pieces : {X Y : Type 0} (h : X → Y) (pieces : ℕ → List X) (js : List ℕ) → map h (flat_map pieces js) ≡ flat_map (λ j. map h (pieces j)) js
map-pieces h pieces [] = refl
map-pieces h pieces (j ∷ js) = map-append h (pieces j) (flat_map pieces js) ∙ ap (λ ys. map h (pieces j) ++ ys) (map-pieces h pieces js)

-- so are edges
pub edges-are_their_parts : (parts : ℕ) (edges : List (ℕ × Edge)) → ArePlaced parts edges
    → IsPermutation (plain_edges edges) (flat_map (λ j. part_of_edges j edges) (range_with_len 0 parts))
edges-are_their_parts parts edges placed =
    subst (IsPermutation (plain_edges edges)) (map-pieces (λ e. e.1) (λ j. filter (λ e. e.0 == j) edges) (range_with_len 0 parts))
    (IsPermutation-map (λ e. e.1) edges (flat_map (λ j. filter (λ e. e.0 == j) edges) (range_with_len 0 parts)) (parts-permute (λ e. e.0) parts edges placed))
