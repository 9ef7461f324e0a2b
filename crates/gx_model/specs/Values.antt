-- The value of each name of a script.
use Rattle.std.specs.Prelude.{ℕ, ◌+◌, ◌-◌, ◌==◌, Bool, false, not, List, [], ◌∷◌, ◌++◌, map, filter, filter_map, slice_get, Option, None, Some, is_none, is_some, Result, unwrap_or}
use Rattle.std.specs.Ordering.{eq_by_cmp}
use Rattle.std.specs.Result.{result_ok, result_unwrap_or}
use Rattle.std.specs.Map.{lookup}
use Rattle.gx_rows.specs.Order.{row_cmp}
use Rattle.gx_rows.specs.declared.cause.Cause.{Cause}
use Rattle.gx_rows.specs.declared.value.Value.{Value}
use Rattle.gx_rows.specs.declared.vid.Vid.{Vid}
use Rattle.gx_expr.specs.Evaluation.{ScopeValues, row_result, truth_result}
use Rattle.gx_expr.specs.declared.expr.Expr.{Expr}
use Rattle.gx_expr.specs.declared.side.Side.{Side}
use Rattle.gx_expr.specs.declared.side.Side.TheVariants as side
use Rattle.gx_load.specs.Loading.{LoadedRow}
use Rattle.gx_types_stmts.specs.declared.typed_stmt.TypedStmt.{TypedStmt}
use Rattle.gx_types_stmts.specs.declared.typed_stmt.TypedStmt.TheVariants as stmts
use Rattle.gx_model.specs.Graphs.{Graph, Placement, Vertex, edges_value, first_row_of, graph_of, placed_anew, placed_from, table_of_rows, table_value, vertex_if}

-- ---- loads

-- the rows of each load statement, under its number
abbrev pub LoadedRows : Type 0
LoadedRows = List (ℕ × List LoadedRow)

abbrev pub rows_loaded : LoadedRows → ℕ → List LoadedRow
rows_loaded loads s = unwrap_or (lookup (λ n. n == s) loads) []

-- the rows of vertices, whose second key says nothing
abbrev pub vertices_loaded : LoadedRows → ℕ → List Vertex
vertices_loaded loads s = map (λ row. (row.0, row.2)) (rows_loaded loads s)

-- ---- rows

-- the row and the identifier of a side, of which there is `v` alone
abbrev pub columns_of_vertex : Side → List Value → List Value
columns_of_vertex side.Vertex row = row
columns_of_vertex _ row = []

abbrev pub id_of_vertex : Side → Vid → Option Vid
id_of_vertex side.Vertex id = Some id
id_of_vertex _ id = None

-- what an expression on a vertex may read
abbrev pub vertex_values : Vertex → ScopeValues
vertex_values v = record {
  columns = λ s. columns_of_vertex s v.1;
  id = λ s. id_of_vertex s v.0;
  matched = false;
}

-- the new row of a vertex, or the fault of its first column that has one
abbrev pub vertex_row_result : List Expr → Vertex → Result (List Value) (Cause × ℕ)
vertex_row_result sets v = row_result (vertex_values v) sets

-- Each vertex with its new row. A vertex on which a column has no value is left out; nothing prints
-- such a list, since the statement then has a fault.
abbrev pub vertices_with_rows : (Vertex → Result (List Value) (Cause × ℕ)) → List Vertex → List Vertex
vertices_with_rows result vertices = filter_map (λ v. vertex_if v.0 (result_ok (result v))) vertices

abbrev pub mapped_vertices : List Expr → List Vertex → List Vertex
mapped_vertices sets vertices = vertices_with_rows (vertex_row_result sets) vertices

-- ---- tests

-- whether the condition holds on a vertex, or its fault
abbrev pub vertex_test_result : Expr → Vertex → Result Bool (Cause × ℕ)
vertex_test_result condition v = truth_result (vertex_values v) condition

-- the vertices on which the condition holds; one on which it has no value is left out
abbrev pub filtered_vertices : Expr → List Vertex → List Vertex
filtered_vertices condition vertices = filter (λ v. result_unwrap_or (vertex_test_result condition v) false) vertices

-- ---- two tables

-- the vertices that the others lack
abbrev pub vertices_minus : List Vertex → List Vertex → List Vertex
vertices_minus vertices others = filter (λ v. is_none (first_row_of others v.0)) vertices

-- whether there is a row, and it is not this one
abbrev pub is_other_row : Option (List Value) → List Value → Bool
is_other_row None row = false
is_other_row (Some other) row = not (eq_by_cmp row_cmp other row)

-- of the others, those that are among the vertices with another row
abbrev pub vertices_diff : List Vertex → List Vertex → List Vertex
vertices_diff vertices others = filter (λ v. is_other_row (first_row_of vertices v.0) v.1) others

-- ---- joins

-- the row of a side: `v` has that of the vertex, and `o` that of the other table
abbrev pub columns_beside : Side → List Value → List Value → List Value
columns_beside side.Vertex row other = row
columns_beside side.Other row other = other
columns_beside _ row other = []

-- what an expression may read on a vertex beside a row of another table; `matched` says whether that
-- table has the vertex
abbrev pub values_beside : Vertex → List Value → Bool → ScopeValues
values_beside v other matched = record {
  columns = λ s. columns_beside s v.1 other;
  id = λ s. id_of_vertex s v.0;
  matched = matched;
}

-- the new row of a vertex beside its row among the others, or else beside the default
abbrev pub join_row_result : List Expr → List Vertex → List Value → Vertex → Result (List Value) (Cause × ℕ)
join_row_result sets others default v =
    row_result (values_beside v (unwrap_or (first_row_of others v.0) default) (is_some (first_row_of others v.0))) sets

-- the vertices that are among the others
abbrev pub vertices_in_both : List Vertex → List Vertex → List Vertex
vertices_in_both vertices others = filter (λ v. is_some (first_row_of others v.0)) vertices

-- each vertex that is among the others, with its new row; none needs a default
abbrev pub inner_joined_vertices : List Expr → List Vertex → List Vertex → List Vertex
inner_joined_vertices sets vertices others =
    vertices_with_rows (join_row_result sets others []) (vertices_in_both vertices others)

-- each vertex, with its new row
abbrev pub left_joined_vertices : List Expr → List Value → List Vertex → List Vertex → List Vertex
left_joined_vertices sets default vertices others = vertices_with_rows (join_row_result sets others default) vertices

-- ---- statements

-- the value of the name that statement s defines, of those so far
abbrev pub value_named : {Place : Type 0} → List (Graph Place) → ℕ → Graph Place
value_named values s = unwrap_or (slice_get values (s - 1)) (record { vertices = []; edges = [] })

-- the value of statement s, by those before it; an action has none
abbrev pub value_of_stmt : {Place : Type 0} → Placement Place → LoadedRows → List (Graph Place) → ℕ → TypedStmt → Graph Place
value_of_stmt placement loads values s (stmts.Vertices file) = table_value (table_of_rows (vertices_loaded loads s))
value_of_stmt placement loads values s (stmts.Edges file) =
    edges_value (placed_from placement.of_loaded 0 (rows_loaded loads s))
value_of_stmt placement loads values s (stmts.EdgeList file oriented) =
    edges_value (placed_from placement.of_loaded 0 (rows_loaded loads s))
value_of_stmt placement loads values s (stmts.Graph t e default) =
    graph_of (value_named values t).vertices (value_named values e).edges default
value_of_stmt placement loads values s (stmts.FromEdges e row) = graph_of [] (value_named values e).edges row
value_of_stmt placement loads values s (stmts.Partition g cut) = record {
  vertices = (value_named values g).vertices;
  edges = placed_anew (placement.of_cut cut) (value_named values g).edges;
}
value_of_stmt placement loads values s (stmts.MapVertices g sets) = record {
  vertices = mapped_vertices sets (value_named values g).vertices;
  edges = (value_named values g).edges;
}
value_of_stmt placement loads values s (stmts.Filter t condition) =
    table_value (filtered_vertices condition (value_named values t).vertices)
value_of_stmt placement loads values s (stmts.MapValues t sets) =
    table_value (mapped_vertices sets (value_named values t).vertices)
value_of_stmt placement loads values s (stmts.Minus t u) =
    table_value (vertices_minus (value_named values t).vertices (value_named values u).vertices)
value_of_stmt placement loads values s (stmts.Diff t u) =
    table_value (vertices_diff (value_named values t).vertices (value_named values u).vertices)
value_of_stmt placement loads values s (stmts.InnerJoin t u sets) =
    table_value (inner_joined_vertices sets (value_named values t).vertices (value_named values u).vertices)
value_of_stmt placement loads values s (stmts.LeftJoin t u default sets) =
    table_value (left_joined_vertices sets default (value_named values t).vertices (value_named values u).vertices)
value_of_stmt placement loads values s _ = record { vertices = []; edges = [] }

-- the values of the statements from number s on, after those before them
abbrev pub values_of_stmts : {Place : Type 0} → Placement Place → LoadedRows → List (Graph Place) → ℕ → List TypedStmt → List (Graph Place)
values_of_stmts placement loads before s [] = before
values_of_stmts placement loads before s (stmt ∷ stmts) =
    values_of_stmts placement loads (before ++ value_of_stmt placement loads before s stmt ∷ []) (s + 1) stmts

-- the value of each statement of a script, in order
abbrev pub values_of_script : {Place : Type 0} → Placement Place → LoadedRows → List TypedStmt → List (Graph Place)
values_of_script placement loads stmts = values_of_stmts placement loads [] 1 stmts
