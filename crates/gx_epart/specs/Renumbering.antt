-- Edges by the numbers that their ends have among themselves alone.
use Rattle.std.specs.Prelude.{◌≡◌, ℕ, ◌+◌, ◌<◌, Bool, true, false, List, [], ◌∷◌, get_or, refl, replicate}
use Rattle.std.proofs.Math.ListN.{set}
use Rattle.gx_epart.specs.declared.local_edge.LocalEdge.{LocalEdge}

-- both ends have a number below n
abbrev pub HasNumbers : ℕ → LocalEdge → Type 0
HasNumbers n e = (e.src < n) × (e.dst < n)

-- the marks, with those of the ends of these edges
abbrev pub with_marks : List Bool → List LocalEdge → List Bool
with_marks marks [] = marks
with_marks marks (e ∷ edges) = with_marks (set (set marks e.src true) e.dst true) edges

-- of n numbers, which are those of ends of the edges
abbrev pub marked_by : ℕ → List LocalEdge → List Bool
marked_by n edges = with_marks (replicate n false) edges

-- the number of each, counted from n on among those with a mark
abbrev pub numbers_anew : ℕ → List Bool → List ℕ
numbers_anew n [] = []
numbers_anew n (true ∷ marks) = n ∷ numbers_anew (n + 1) marks
numbers_anew n (false ∷ marks) = n ∷ numbers_anew n marks

-- the edge by other numbers
abbrev pub renumbered : List ℕ → LocalEdge → LocalEdge
renumbered numbers e = record { src = get_or numbers e.src 0; dst = get_or numbers e.dst 0; row = e.row }

numbers_anew-example : numbers_anew 0 (marked_by 3 (record { src = 2; dst = 0; row = 5 } ∷ [])) ≡ 0 ∷ 1 ∷ 1 ∷ []
numbers_anew-example = refl
