-- What an expression reads at a vertex of a table, and what comes of it there: a new row, or whether
-- a test holds. A fault is a cause with the number of the expression node that has no value.
use Rattle.std.specs.Prelude.{◌≡◌, ℕ, Bool, true, false, List, [], Option, None, Some, is_some, Result, unwrap_or, refl}
use Rattle.gx_rows.specs.declared.cause.Cause.{Cause}
use Rattle.gx_rows.specs.declared.value.Value.{Value}
use Rattle.gx_rows.specs.declared.vid.Vid.{Vid}
use Rattle.gx_expr.specs.Evaluation.{ScopeValues, row_result, truth_result}
use Rattle.gx_expr.specs.declared.expr.Expr.{Expr}
use Rattle.gx_expr.specs.declared.side.Side.{Side}
use Rattle.gx_expr.specs.declared.side.Side.TheVariants as side
use Rattle.gx_vpart.specs.Operators.{VertexRow}

-- the identifier of a vertex, and of one with another row beside it
abbrev pub vertex_id : VertexRow → Vid
vertex_id v = v.0

abbrev pub join_id : {R S : Type 0} → Vid × R × S → Vid
join_id x = x.0

-- ---- at a vertex alone

-- the row of a side, of which there is `v` alone
abbrev pub columns_at_vertex : Side → List Value → List Value
columns_at_vertex side.Vertex row = row
columns_at_vertex _ row = []

-- the identifier of a side, of which there is that of `v` alone
abbrev pub id_at_vertex : Side → Vid → Option Vid
id_at_vertex side.Vertex id = Some id
id_at_vertex _ id = None

-- what an expression reads at a vertex
abbrev pub values_at_vertex : VertexRow → ScopeValues
values_at_vertex v = record {
  columns = λ s. columns_at_vertex s v.1;
  id = λ s. id_at_vertex s v.0;
  matched = false;
}

-- the new row of a vertex, or the fault of its first column that has one
abbrev pub mapped_row : List Expr → VertexRow → Result (List Value) (Cause × ℕ)
mapped_row sets v = row_result (values_at_vertex v) sets

-- whether the test holds of a vertex, or its fault
abbrev pub test_result : Expr → VertexRow → Result Bool (Cause × ℕ)
test_result test v = truth_result (values_at_vertex v) test

-- ---- at a vertex with a row beside it

-- the row of a side: `v` has that of the vertex, and `o` the other one
abbrev pub columns_in_join : Side → List Value → List Value → List Value
columns_in_join side.Vertex row other = row
columns_in_join side.Other row other = other
columns_in_join _ row other = []

-- what an expression reads at a vertex with another row beside it
abbrev pub values_in_join : VertexRow → List Value → Bool → ScopeValues
values_in_join v other matched = record {
  columns = λ s. columns_in_join s v.1 other;
  id = λ s. id_at_vertex s v.0;
  matched = matched;
}

-- the new row of a vertex beside another row, or the fault of its first column that has one
abbrev pub joined_row : List Expr → VertexRow → List Value → Bool → Result (List Value) (Cause × ℕ)
joined_row sets v other matched = row_result (values_in_join v other matched) sets

-- the new row of a vertex that is in both tables
abbrev pub inner_row : List Expr → Vid × List Value × List Value → Result (List Value) (Cause × ℕ)
inner_row sets x = joined_row sets (x.0, x.1) x.2 true

-- the new row of a vertex with the row of the other table beside it, or else the default
abbrev pub left_row : List Expr → List Value → Vid × List Value × Option (List Value) → Result (List Value) (Cause × ℕ)
left_row sets default x = joined_row sets (x.0, x.1) (unwrap_or x.2 default) (is_some x.2)

-- ---- example: `o` is the other row, and has no identifier

values_in_join-sides : (v : VertexRow) (other : List Value)
    → ((values_in_join v other true).columns side.Vertex ≡ v.1)
    × ((values_in_join v other true).columns side.Other ≡ other)
    × ((values_in_join v other true).id side.Vertex ≡ Some v.0)
    × ((values_in_join v other true).id side.Other ≡ None)
values_in_join-sides v other = (refl, refl, refl, refl)
