-- Tables of rows, and the rows that ends of edges become.
use Rattle.std.specs.Prelude.{◌≡◌, ℕ, pos, ◌%◌, ◌==◌, ◌&&◌, Bool, List, [], ◌∷◌, ◌++◌, map, filter, flat_map, is_none, refl}
use Rattle.std.specs.FinMap.Entries.{put}
use Rattle.std.specs.Map.{keys_of}
use Rattle.gx_rows.specs.Order.{Edge}
use Rattle.gx_rows.specs.declared.value.Value.{Value}
use Rattle.gx_rows.specs.declared.value.Value.TheVariants.{Int}
use Rattle.gx_rows.specs.declared.vid.Vid.{Vid}
use Rattle.gx_cuts.specs.Mixing.{mix_of}
use Rattle.gx_index.specs.Ids.{IsAscending, has_id, id_cmp}
use Rattle.gx_vpart.specs.Operators.{VertexRow, row_at}

-- ---- tables

-- the table of rows: each identifier that occurs in them, ascending, with its first row
abbrev pub table_of : List VertexRow → List VertexRow
table_of [] = []
table_of (r ∷ rows) = put id_cmp r.0 r.1 (table_of rows)

-- what makes a list that table: it ascends, and a look-up finds the first row
pub record IsTableOf (rows table : List VertexRow) : Type 0 where
  pub ascending : IsAscending (keys_of table)
  pub first_rows : (id : Vid) → row_at id table ≡ row_at id rows

-- ---- ends of edges

-- whether a vertex is in the partition, which is one of `parts`
abbrev pub is_in_part : ℕ → ℕ → Vid → Bool
is_in_part part parts id = mix_of id.0 % parts == part

-- the sources and destinations of edges
abbrev pub both_ends : List Edge → List Vid
both_ends edges = flat_map (λ e. e.0 ∷ e.1 ∷ []) edges

-- those of them that are in the partition
abbrev pub ends_in_part : ℕ → ℕ → List Edge → List Vid
ends_in_part part parts edges = filter (is_in_part part parts) (both_ends edges)

-- the same identifiers, in any order and with repetitions
abbrev pub HasSameIds : List Vid → List Vid → Type 0
HasSameIds ids others = (v : Vid) → has_id v ids ≡ has_id v others

-- whether a vertex is in the partition and has no row
abbrev pub is_missing : List VertexRow → ℕ → ℕ → Vid → Bool
is_missing rows part parts id = is_in_part part parts id && is_none (row_at id rows)

-- the default row for each of the identifiers
abbrev pub default_rows : List Value → List Vid → List VertexRow
default_rows default ids = map (λ id. (id, default)) ids

-- ---- examples

-- vertex 1 has a row
one_row : List VertexRow
one_row = (record { 0 = pos 1 }, Int (pos 10) ∷ []) ∷ []

-- an edge from 3 to 2, and one from 1 to 3
two_edges : List Edge
two_edges = (record { 0 = pos 3 }, record { 0 = pos 2 }, []) ∷ (record { 0 = pos 1 }, record { 0 = pos 3 }, []) ∷ []

-- of two partitions, 1 and 3 are in the first, and 2 is in the second
ends_in_part-example : ends_in_part 0 2 two_edges ≡ record { 0 = pos 3 } ∷ record { 0 = pos 1 } ∷ record { 0 = pos 3 } ∷ []
unfolding mix_of two_edges
ends_in_part-example = refl

-- vertex 1 keeps its row, and 3 gets the default
table_of-example : table_of (one_row ++ default_rows (Int (pos 0) ∷ []) (ends_in_part 0 2 two_edges))
    ≡ (record { 0 = pos 1 }, Int (pos 10) ∷ []) ∷ (record { 0 = pos 3 }, Int (pos 0) ∷ []) ∷ []
unfolding mix_of one_row two_edges
table_of-example = refl
