-- Lists of edges, and what each operator makes of one.
use Rattle.std.specs.Prelude.{◌≡◌, ℕ, pos, Bool, true, false, cond, List, [], ◌∷◌, IsPermutation, IsSorted, map, refl}
use Rattle.std.specs.Ordering.{is_lt}
use Rattle.gx_rows.specs.Order.{Edge, edge_cmp}
use Rattle.gx_rows.specs.declared.row_key.RowKey.{RowKey}
use Rattle.gx_rows.specs.declared.row_key.RowKey.TheVariants as row_key
use Rattle.gx_rows.specs.declared.value.Value.{Value}
use Rattle.gx_rows.specs.declared.value.Value.TheVariants.{Int}
use Rattle.gx_rows.specs.declared.vid.Vid.{Vid}
use denote.Ref.{Bor}

-- the same edges, equal ones repeated, by source, then by destination, then by row
pub record IsEdgeOrderOf (edges ordered : List Edge) : Type 0 where
  pub same : IsPermutation edges ordered
  pub sorted : IsSorted edge_cmp ordered

-- the list with one more edge, before the first that is greater
abbrev pub with_edge : Edge → List Edge → List Edge
with_edge e [] = e ∷ []
with_edge e (f ∷ edges) = cond (is_lt (edge_cmp e f)) (e ∷ f ∷ edges) (f ∷ with_edge e edges)

-- the one list in edge order with these edges
abbrev pub edge_order_of : List Edge → List Edge
edge_order_of [] = []
edge_order_of (e ∷ edges) = with_edge e (edge_order_of edges)

-- edges whose rows are lent
abbrev pub edges_lent : List (Vid × Vid × Bor (List Value)) → List Edge
edges_lent edges = map (λ e. (e.0, e.1, e.2.now)) edges

-- source and destination of an edge
abbrev pub ends_of_edge : Edge → Vid × Vid
ends_of_edge e = (e.0, e.1)

-- source and destination of each edge
abbrev pub ends_of_edges : List Edge → List (Vid × Vid)
ends_of_edges edges = map ends_of_edge edges

-- source and destination of each edge, one after the other
abbrev pub sources_and_destinations : List Edge → List Vid
sources_and_destinations [] = []
sources_and_destinations (e ∷ edges) = e.0 ∷ e.1 ∷ sources_and_destinations edges

-- the key of an edge's row
abbrev pub key_of_edge : Edge → RowKey
key_of_edge e = row_key.Edge e.0 e.1 e.2

-- source and destination exchanged
abbrev pub reversed_edge : Edge → Edge
reversed_edge e = (e.1, e.0, e.2)

abbrev pub reversed_edges : List Edge → List Edge
reversed_edges edges = map reversed_edge edges

-- each edge with a new row
abbrev pub edges_with_rows : List Edge → List (List Value) → List Edge
edges_with_rows edges [] = []
edges_with_rows [] (row ∷ rows) = []
edges_with_rows (e ∷ edges) (row ∷ rows) = (e.0, e.1, row) ∷ edges_with_rows edges rows

-- the edges whose bool is true
abbrev pub edges_kept : {E : Type 0} → List E → List Bool → List E
edges_kept [] keeps = []
edges_kept (e ∷ edges) [] = []
edges_kept (e ∷ edges) (true ∷ keeps) = e ∷ edges_kept edges keeps
edges_kept (e ∷ edges) (false ∷ keeps) = edges_kept edges keeps

-- ---- examples

-- the edge from 1 to 2 with 6 is after that with 4, and before the edge from 2
edge_order_of-example : edge_order_of ((record { 0 = pos 2 }, record { 0 = pos 3 }, Int (pos 1) ∷ []) ∷ (record { 0 = pos 1 }, record { 0 = pos 2 }, Int (pos 6) ∷ []) ∷ (record { 0 = pos 1 }, record { 0 = pos 2 }, Int (pos 4) ∷ []) ∷ [])
    ≡ (record { 0 = pos 1 }, record { 0 = pos 2 }, Int (pos 4) ∷ []) ∷ (record { 0 = pos 1 }, record { 0 = pos 2 }, Int (pos 6) ∷ []) ∷ (record { 0 = pos 2 }, record { 0 = pos 3 }, Int (pos 1) ∷ []) ∷ []
edge_order_of-example = refl

sources_and_destinations-example : sources_and_destinations ((record { 0 = pos 1 }, record { 0 = pos 2 }, []) ∷ (record { 0 = pos 3 }, record { 0 = pos 1 }, []) ∷ [])
    ≡ record { 0 = pos 1 } ∷ record { 0 = pos 2 } ∷ record { 0 = pos 3 } ∷ record { 0 = pos 1 } ∷ []
sources_and_destinations-example = refl

reversed_edges-example : reversed_edges ((record { 0 = pos 1 }, record { 0 = pos 2 }, Int (pos 4) ∷ []) ∷ []) ≡ (record { 0 = pos 2 }, record { 0 = pos 1 }, Int (pos 4) ∷ []) ∷ []
reversed_edges-example = refl

edges_with_rows-example : edges_with_rows ((record { 0 = pos 1 }, record { 0 = pos 2 }, Int (pos 4) ∷ []) ∷ []) ((Int (pos 5) ∷ []) ∷ []) ≡ (record { 0 = pos 1 }, record { 0 = pos 2 }, Int (pos 5) ∷ []) ∷ []
edges_with_rows-example = refl

edges_kept-example : edges_kept {E = ℕ} (1 ∷ 2 ∷ 3 ∷ []) (true ∷ false ∷ true ∷ []) ≡ 1 ∷ 3 ∷ []
edges_kept-example = refl
