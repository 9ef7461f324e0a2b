-- Edges by numbers: an end by its position among the ends, a row by its position among the rows.
use Rattle.std.specs.Prelude.{◌≡◌, ℕ, pos, ◌+◌, ◌<◌, ◌^◌, true, List, [], ◌∷◌, All, IsSorted, get_or, length, map, Some, refl, slice_get, slice_index_or}
use Rattle.gx_rows.specs.Order.{Edge, edge_cmp}
use Rattle.gx_rows.specs.declared.value.Value.{Value}
use Rattle.gx_rows.specs.declared.vid.Vid.{Vid}
use Rattle.std.specs.Map.{keys_of}
use Rattle.gx_index.specs.Ends.{End, IsEndsOf, IsSetOf}
use Rattle.gx_index.specs.Ids.{IsAscending, has_id}
use Rattle.gx_epart.specs.Edges.{ends_of_edges, sources_and_destinations}
use Rattle.gx_epart.specs.declared.local_edge.LocalEdge.{LocalEdge}

-- the identifier of a number
abbrev pub id_of_number : List Vid → ℕ → Vid
id_of_number ids n = slice_index_or ids n (record { 0 = pos 0 })

-- an edge whose ends are numbers
abbrev pub edge_of_numbers : List Vid → ℕ × ℕ × List Value → Edge
edge_of_numbers ids e = (id_of_number ids e.0, id_of_number ids e.1, e.2)

-- an edge whose ends and row are numbers
abbrev pub edge_of_local : List Vid → List (List Value) → LocalEdge → Edge
edge_of_local ids rows e = (id_of_number ids e.src, id_of_number ids e.dst, slice_index_or rows e.row [])

-- the ends of edges whose ends are numbers
abbrev pub ends_of_numbers : List Vid → List (ℕ × ℕ × List Value) → List Vid
ends_of_numbers ids es = sources_and_destinations (map (edge_of_numbers ids) es)

abbrev pub edges_of_locals : List Vid → List (List Value) → List LocalEdge → List Edge
edges_of_locals ids rows locals = map (edge_of_local ids rows) locals

-- both ends have an identifier
abbrev pub HasIds : {R : Type 0} → List Vid → ℕ × ℕ × R → Type 0
HasIds ids e = (e.0 < length ids) × (e.1 < length ids)

-- both ends have an identifier, and the row is there
abbrev pub IsInRange : List Vid → List (List Value) → LocalEdge → Type 0
IsInRange ids rows e = (e.src < length ids) × (e.dst < length ids) × (e.row < length rows)

-- both ends are among the identifiers
abbrev pub HasKnownEnds : List Vid → Edge → Type 0
HasKnownEnds ids e = (has_id e.0 ids ≡ true) × (has_id e.1 ids ≡ true)

-- the row of each edge
abbrev pub rows_of : List Edge → List (List Value)
rows_of edges = map (λ e. e.2) edges

-- the destination of each edge with its position, from position n on
abbrev pub destinations_from : ℕ → List Edge → List (Vid × ℕ)
destinations_from n [] = []
destinations_from n (e ∷ edges) = (e.1, n) ∷ destinations_from (n + 1) edges

-- the identifiers are the ends of the edges, in any order and with repetitions
abbrev pub HasEndsOf : List Edge → List Vid → Type 0
HasEndsOf edges ids = (v : Vid) → has_id v ids ≡ has_id v (sources_and_destinations edges)

-- the numbers are those of the destinations
pub record HasDestinations (ids : List Vid) (edges : List Edge) (numbers : List ℕ) : Type 0 where
  pub count : length numbers ≡ length edges
  pub each : (i : ℕ) (e : Edge) → slice_get edges i ≡ Some e → slice_get ids (get_or numbers i 0) ≡ Some e.1

-- the ends of each edge, with the position of its row, from position n on
abbrev pub locals_from : {R : Type 0} → ℕ → List (ℕ × ℕ × R) → List LocalEdge
locals_from n [] = []
locals_from n (e ∷ edges) = record { src = e.0; dst = e.1; row = n } ∷ locals_from (n + 1) edges

abbrev pub locals_of : {R : Type 0} → List (ℕ × ℕ × R) → List LocalEdge
locals_of edges = locals_from 0 edges

-- the ends of each edge, with a new row
abbrev pub numbers_with_rows : {R : Type 0} → List LocalEdge → List R → List (ℕ × ℕ × R)
numbers_with_rows edges [] = []
numbers_with_rows [] (row ∷ rows) = []
numbers_with_rows (e ∷ edges) (row ∷ rows) = (e.src, e.dst, row) ∷ numbers_with_rows edges rows

-- source and destination exchanged
abbrev pub reversed_local : LocalEdge → LocalEdge
reversed_local e = record { src = e.dst; dst = e.src; row = e.row }

-- the numbers are those of edges in order, and the identifiers are the ends of these
pub record HasEdges (ids : List Vid) (rows : List (List Value)) (locals : List LocalEdge) : Type 0 where
  pub few : length locals < 2 ^ 32
  pub in_range : All (IsInRange ids rows) locals
  pub sorted : IsSorted edge_cmp (edges_of_locals ids rows locals)
  pub exact : IsSetOf (sources_and_destinations (edges_of_locals ids rows locals)) ids

-- the same, and the ends have their sides
pub record HasEnds (ends : List End) (rows : List (List Value)) (locals : List LocalEdge) : Type 0 where
  pub few : length locals < 2 ^ 32
  pub in_range : All (IsInRange (keys_of ends) rows) locals
  pub sorted : IsSorted edge_cmp (edges_of_locals (keys_of ends) rows locals)
  pub exact : IsEndsOf (ends_of_edges (edges_of_locals (keys_of ends) rows locals)) ends

edges_of_locals-example : edges_of_locals (record { 0 = pos 7 } ∷ record { 0 = pos 9 } ∷ []) ([] ∷ []) (record { src = 1; dst = 0; row = 0 } ∷ []) ≡ (record { 0 = pos 9 }, record { 0 = pos 7 }, []) ∷ []
edges_of_locals-example = refl
