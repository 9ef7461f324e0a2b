-- Graphs, tables and edge collections as plain lists, and the operators on them.
use Rattle.std.specs.Prelude.{◌≡◌, ℕ, ◌+◌, pos, List, [], ◌∷◌, ◌++◌, map, flat_map, filter_map, Option, option_map, refl}
use Rattle.std.specs.BTreeSet.{insert_key}
use Rattle.std.specs.Map.{lookup}
use Rattle.gx_rows.specs.declared.cut.Cut.{Cut}
use Rattle.gx_rows.specs.Order.{Edge}
use Rattle.gx_rows.specs.declared.value.Value.{Value}
use Rattle.gx_rows.specs.declared.value.Value.TheVariants.{Int}
use Rattle.gx_rows.specs.declared.vid.Vid.{Vid}
use Rattle.gx_index.specs.Ids.{id_cmp, is_same_id}

-- a vertex: an identifier with its row
abbrev pub Vertex : Type 0
Vertex = Vid × List Value

-- What a name stands for. A table is its vertices alone, an edge collection its edges alone, and a
-- graph both, where each end of an edge is a vertex. Vertices ascend by identifier, and no identifier
-- is repeated; edges are in the order in which they were loaded. With each edge stands what is known
-- of its place: nothing (`Unit`) in the plain model, the number of a partition where there are some.
pub record Graph (Place : Type 0) : Type 0 where
  pub vertices : List Vertex
  pub edges : List (Place × Edge)

-- ---- tables

-- the identifiers of these rows, each once, ascending
abbrev pub ids_in_rows : List Vertex → List Vid
ids_in_rows [] = []
ids_in_rows (v ∷ vertices) = insert_key id_cmp (ids_in_rows vertices) v.0

-- the first row of an identifier
abbrev pub first_row_of : List Vertex → Vid → Option (List Value)
first_row_of vertices id = lookup (is_same_id id) vertices

-- an identifier with a row, if it has one
abbrev pub vertex_if : Vid → Option (List Value) → Option Vertex
vertex_if id row = option_map (λ r. (id, r)) row

-- the table of these rows: each identifier that occurs, ascending, with its first row
abbrev pub table_of_rows : List Vertex → List Vertex
table_of_rows vertices = filter_map (λ id. vertex_if id (first_row_of vertices id)) (ids_in_rows vertices)

abbrev pub table_value : {Place : Type 0} → List Vertex → Graph Place
table_value vertices = record { vertices = vertices; edges = [] }

-- ---- edges

abbrev pub edges_value : {Place : Type 0} → List (Place × Edge) → Graph Place
edges_value edges = record { vertices = []; edges = edges }

-- the edges, each with the place of its ordinal, from this ordinal on
abbrev pub placed_from : {Place : Type 0} → (ℕ → Edge → Place) → ℕ → List Edge → List (Place × Edge)
placed_from place n [] = []
placed_from place n (e ∷ edges) = (place n e, e) ∷ placed_from place (n + 1) edges

-- Where edges are placed: a loaded edge, with its ordinal in its file, and an edge that a cut places
-- anew, which knows no ordinal.
pub record Placement (Place : Type 0) : Type 0 where
  pub of_loaded : ℕ → Edge → Place
  pub of_cut : Cut → Edge → Place

-- the plain model knows no places
abbrev pub unplaced : Placement (Unit {0})
unplaced = record { of_loaded = λ n e. tt; of_cut = λ cut e. tt }

-- The edges, each placed anew. The key of an edge is its source, its destination and its row, so edges
-- of equal keys are equal, and go to one place: which of them stands first makes no other list.
abbrev pub placed_anew : {Place New : Type 0} → (Edge → New) → List (Place × Edge) → List (New × Edge)
placed_anew place edges = map (λ e. (place e.1, e.1)) edges

-- a value, where nothing is known of places
abbrev pub without_places : {Place : Type 0} → Graph Place → Graph (Unit {0})
without_places g = record { vertices = g.vertices; edges = placed_anew (λ e. tt) g.edges }

-- the edges without their places
abbrev pub plain_edges : {Place : Type 0} → List (Place × Edge) → List Edge
plain_edges edges = map (λ e. e.1) edges

-- the sources and destinations of edges
abbrev pub ends_in_edges : List Edge → List Vid
ends_in_edges edges = flat_map (λ e. e.0 ∷ e.1 ∷ []) edges

-- ---- graphs

-- the graph of these vertices and edges; an end of an edge that is no vertex becomes one, with the
-- default row
abbrev pub graph_of : {Place : Type 0} → List Vertex → List (Place × Edge) → List Value → Graph Place
graph_of vertices edges default = record {
  vertices = table_of_rows (vertices ++ map (λ id. (id, default)) (ends_in_edges (plain_edges edges)));
  edges = edges;
}

-- ---- examples

-- vertex 1 has two rows
three_rows : List Vertex
three_rows =
    (record { 0 = pos 3 }, Int (pos 30) ∷ [])
    ∷ (record { 0 = pos 1 }, Int (pos 25) ∷ [])
    ∷ (record { 0 = pos 1 }, Int (pos 26) ∷ [])
    ∷ []

one_edge : List (ℕ × Edge)
one_edge = (7, (record { 0 = pos 1 }, record { 0 = pos 2 }, [])) ∷ []

-- the first row of vertex 1 is kept
table_of_rows-example : table_of_rows three_rows
    ≡ (record { 0 = pos 1 }, Int (pos 25) ∷ []) ∷ (record { 0 = pos 3 }, Int (pos 30) ∷ []) ∷ []
unfolding three_rows
table_of_rows-example = refl

-- vertex 2 is an end without a row, and gets the default
graph_of-example : (graph_of three_rows one_edge (Int (pos 0) ∷ [])).vertices
    ≡ (record { 0 = pos 1 }, Int (pos 25) ∷ [])
    ∷ (record { 0 = pos 2 }, Int (pos 0) ∷ [])
    ∷ (record { 0 = pos 3 }, Int (pos 30) ∷ [])
    ∷ []
unfolding three_rows one_edge
graph_of-example = refl

-- placed by their sources: the edge from 1 moves from place 7 to 1, and is the same edge
placed_anew-example : placed_anew (λ e. e.0) one_edge ≡ (record { 0 = pos 1 }, (record { 0 = pos 1 }, record { 0 = pos 2 }, [])) ∷ []
unfolding one_edge
placed_anew-example = refl

without_places-example : without_places (record { vertices = three_rows; edges = one_edge })
    ≡ record { vertices = three_rows; edges = (tt, (record { 0 = pos 1 }, record { 0 = pos 2 }, [])) ∷ [] }
unfolding one_edge
without_places-example = refl
