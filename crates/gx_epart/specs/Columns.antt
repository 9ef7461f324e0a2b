-- Edges by numbers, in columns.
use Rattle.std.specs.Prelude.{◌≡◌, ℕ, ◌<◌, ◌^◌, List, [], ◌∷◌, Option, Some, None, Vec, length, refl}
use Rattle.std.specs.Global.{Global}
use Rattle.std.specs.List.{range_with_len}
use Rattle.gx_epart.specs.declared.local_edge.LocalEdge.{LocalEdge}

-- the edges with these sources, destinations and rows
abbrev pub locals_of_columns : List ℕ → List ℕ → List ℕ → List LocalEdge
locals_of_columns [] dsts rows = []
locals_of_columns (s ∷ srcs) [] rows = []
locals_of_columns (s ∷ srcs) (d ∷ dsts) [] = []
locals_of_columns (s ∷ srcs) (d ∷ dsts) (r ∷ rows) = record { src = s; dst = d; row = r } ∷ locals_of_columns srcs dsts rows

-- where the rows of n edges are; with no list, in the order of the edges
abbrev pub row_numbers : Option (Vec ℕ Global) → ℕ → List ℕ
row_numbers (Some at) n = at.items
row_numbers None n = range_with_len 0 n

-- columns of one length
pub record HasColumns (srcs dsts rows : List ℕ) : Type 0 where
  pub few : length srcs < 2 ^ 32
  pub one_dst_each : length dsts ≡ length srcs
  pub one_row_each : length rows ≡ length srcs

locals_of_columns-example : locals_of_columns (1 ∷ []) (0 ∷ []) (row_numbers None 1) ≡ record { src = 1; dst = 0; row = 0 } ∷ []
locals_of_columns-example = refl
