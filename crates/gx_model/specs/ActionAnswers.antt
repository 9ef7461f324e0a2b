-- What an action prints: a header and rows.
use Rattle.std.specs.Prelude.{ℕ, pos, ◌-◌, List, [], ◌∷◌, map, length, codes, slice_get, unwrap_or, Option, None, Some, option_map}
use Rattle.gx_rows.specs.Columns.{Column, names_of}
use Rattle.gx_rows.specs.Order.{Edge}
use Rattle.gx_rows.specs.declared.value.Value.{Value}
use Rattle.gx_rows.specs.declared.value.Value.TheVariants.{Int}
use Rattle.gx_epart.specs.Edges.{edge_order_of}
use Rattle.gx_types_stmts.specs.declared.checked_stmt.CheckedStmt.{CheckedStmt}
use Rattle.gx_types_stmts.specs.declared.made.Made.{Made}
use Rattle.gx_types_stmts.specs.declared.typed_stmt.TypedStmt.{TypedStmt}
use Rattle.gx_types_stmts.specs.declared.typed_stmt.TypedStmt.TheVariants as stmts
use Rattle.gx_model.specs.Graphs.{Graph, Vertex, plain_edges}
use Rattle.gx_model.specs.Values.{value_named}

pub record Answer : Type 0 where
  pub header : List (List ℕ)
  pub rows : List (List Value)

-- ---- the row types of what is printed

abbrev pub made_named : List CheckedStmt → ℕ → Made
made_named checked s = unwrap_or (option_map (λ c. c.made) (slice_get checked (s - 1))) (record { vertices = None; edges = None })

abbrev pub names_if : Option (List Column) → List (List ℕ)
names_if columns = names_of (unwrap_or columns [])

-- ---- what each action prints

-- vertices by identifier
abbrev pub vertices_answer : Option (List Column) → List Vertex → Answer
vertices_answer columns vertices = record {
  header = codes "id" ∷ names_if columns;
  rows = map (λ v. Int v.0.0 ∷ v.1) vertices;
}

-- edges in edge order
abbrev pub edges_answer : Option (List Column) → List Edge → Answer
edges_answer columns edges = record {
  header = codes "src" ∷ codes "dst" ∷ names_if columns;
  rows = map (λ e. Int e.0.0 ∷ Int e.1.0 ∷ e.2) (edge_order_of edges);
}

abbrev pub count_answer : ℕ → Answer
count_answer n = record { header = codes "count" ∷ []; rows = (Int (pos n) ∷ []) ∷ [] }

-- what a statement prints, by the row types and the values of those before it, if it is an action
abbrev pub answer_of_stmt : {Place : Type 0} → List CheckedStmt → List (Graph Place) → TypedStmt → Option Answer
answer_of_stmt checked values (stmts.PrintVertices g) =
    Some (vertices_answer (made_named checked g).vertices (value_named values g).vertices)
answer_of_stmt checked values (stmts.PrintEdges g) =
    Some (edges_answer (made_named checked g).edges (plain_edges (value_named values g).edges))
answer_of_stmt checked values (stmts.PrintTable t) =
    Some (vertices_answer (made_named checked t).vertices (value_named values t).vertices)
answer_of_stmt checked values (stmts.CountVertices g) = Some (count_answer (length (value_named values g).vertices))
answer_of_stmt checked values (stmts.CountEdges g) = Some (count_answer (length (value_named values g).edges))
answer_of_stmt checked values (stmts.CountTable t) = Some (count_answer (length (value_named values t).vertices))
answer_of_stmt checked values _ = None
