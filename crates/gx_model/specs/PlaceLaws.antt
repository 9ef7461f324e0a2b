-- Values, faults and answers do not depend on the places of edges.
use Rattle.std.proofs.Common.{
  ◌≡◌,
  ℕ,
  ◌+◌,
  ◌-◌,
  List,
  [],
  ◌∷◌,
  ◌++◌,
  map,
  length,
  Option,
  None,
  Some,
  option_map,
  unwrap_or,
  refl,
  sym,
  ap,
  ap₂,
  ◌∙◌,
}
use Rattle.std.specs.List.{slice_get}
use Rattle.std.proofs.lemmas.List.{length-map, map-append}
use Rattle.std.proofs.lemmas.Option.{slice_get-map}
use Rattle.gx_rows.specs.Order.{Edge}
use Rattle.gx_rows.specs.declared.value.Value.{Value}
use Rattle.gx_types_stmts.specs.declared.checked_stmt.CheckedStmt.{CheckedStmt}
use Rattle.gx_types_stmts.specs.declared.typed_stmt.TypedStmt.{TypedStmt}
use Rattle.gx_types_stmts.specs.declared.typed_stmt.TypedStmt.TheVariants as stmts
use Rattle.gx_model.specs.ActionAnswers.{
  answer_of_stmt,
  count_answer,
  edges_answer,
  made_named,
  vertices_answer,
}
use Rattle.gx_model.specs.Graphs.{
  Graph,
  Placement,
  Vertex,
  ends_in_edges,
  graph_of,
  placed_anew,
  placed_from,
  plain_edges,
  table_of_rows,
  table_value,
  unplaced,
  without_places,
}
use Rattle.gx_model.specs.StmtFaults.{fault_of_stmt, fault_over_vertices}
use Rattle.gx_model.specs.Values.{
  LoadedRows,
  filtered_vertices,
  inner_joined_vertices,
  join_row_result,
  left_joined_vertices,
  mapped_vertices,
  rows_loaded,
  value_named,
  value_of_stmt,
  values_of_script,
  values_of_stmts,
  vertex_row_result,
  vertex_test_result,
  vertices_diff,
  vertices_in_both,
  vertices_minus,
}

-- ---- edges

module _ {Place : Type 0} where
  -- edges that are placed twice are where they are placed at last
  placed-twice : {Other New : Type 0} (first : Edge → Other) (last : Edge → New)
      (edges : List (Place × Edge))
      → placed_anew last (placed_anew first edges) ≡ placed_anew last edges
  placed-twice first last [] = refl
  placed-twice first last (e ∷ edges) =
      ap (λ es. (last e.1, e.1) ∷ es) (placed-twice first last edges)

  pub plain-placed_anew : {New : Type 0} (place : Edge → New) (edges : List (Place × Edge))
      → plain_edges (placed_anew place edges) ≡ plain_edges edges
  plain-placed_anew place [] = refl
  plain-placed_anew place (e ∷ edges) = ap (λ es. e.1 ∷ es) (plain-placed_anew place edges)

  loaded-without_places : (place : ℕ → Edge → Place) (n : ℕ) (edges : List Edge)
      → placed_anew {New = Unit {0}} (λ e. tt) (placed_from place n edges)
      ≡ placed_from unplaced.of_loaded n edges
  loaded-without_places place n [] = refl
  loaded-without_places place n (e ∷ edges) =
      ap (λ es. (tt, e) ∷ es) (loaded-without_places place (n + 1) edges)

-- ---- values

no_value_or : {Place : Type 0} (found : Option (Graph Place))
    → unwrap_or (option_map without_places found) (record { vertices = []; edges = [] })
    ≡ without_places (unwrap_or found (record { vertices = []; edges = [] }))
no_value_or None = refl
no_value_or (Some g) = refl

pub named-without_places : {Place : Type 0} (vs : List (Graph Place)) (s : ℕ)
    → value_named (map without_places vs) s ≡ without_places (value_named vs s)
named-without_places vs s =
    ap (λ found. unwrap_or found (record { vertices = []; edges = [] }))
    (slice_get-map without_places vs (s - 1)) ∙ no_value_or (slice_get vs (s - 1))

graph-without_places : {Place : Type 0} (vertices : List Vertex) (edges : List (Place × Edge))
    (default : List Value)
    → without_places (graph_of vertices edges default)
    ≡ graph_of vertices (placed_anew (λ e. tt) edges) default
graph-without_places vertices edges default =
    ap (λ es. record {
      vertices =
          table_of_rows (vertices ++ map (λ id. (id, default)) (ends_in_edges es));
      edges =
          placed_anew (λ e. tt) edges;
    })
    (sym (plain-placed_anew (λ e. tt) edges))

module _ {Place : Type 0} (placement : Placement Place) (loads : LoadedRows) where
  stmt-without_places : (vs : List (Graph Place)) (s : ℕ) (st : TypedStmt)
      → without_places (value_of_stmt placement loads vs s st)
      ≡ value_of_stmt unplaced loads (map without_places vs) s st
  stmt-without_places vs s (stmts.Edges file) =
      ap (λ es. record { vertices = []; edges = es })
      (loaded-without_places placement.of_loaded 0 (rows_loaded loads s))
  stmt-without_places vs s (stmts.EdgeList file oriented) =
      ap (λ es. record { vertices = []; edges = es })
      (loaded-without_places placement.of_loaded 0 (rows_loaded loads s))
  stmt-without_places vs s (stmts.Graph t e default) =
      graph-without_places (value_named vs t).vertices (value_named vs e).edges default
      ∙ ap₂ (λ (x : Graph (Unit {0})) (y : Graph (Unit {0})). graph_of x.vertices y.edges default)
      (sym (named-without_places vs t)) (sym (named-without_places vs e))
  stmt-without_places vs s (stmts.FromEdges e row) =
      graph-without_places [] (value_named vs e).edges row
      ∙ ap (λ (y : Graph (Unit {0})). graph_of [] y.edges row) (sym (named-without_places vs e))
  stmt-without_places vs s (stmts.Partition g cut) =
      ap (λ es. record { vertices = (value_named vs g).vertices; edges = es })
      (placed-twice (placement.of_cut cut) (λ e. tt) (value_named vs g).edges
      ∙ sym (placed-twice (λ e. tt) (λ e. tt) (value_named vs g).edges))
      ∙ ap (λ (x : Graph (Unit {0})). record {
        vertices = x.vertices;
        edges =
            placed_anew (λ e. tt) x.edges;
      }) (sym (named-without_places vs g))
  stmt-without_places vs s (stmts.MapVertices g sets) =
      ap (λ (x : Graph (Unit {0})). record {
        vertices = mapped_vertices sets x.vertices;
        edges =
            x.edges;
      }) (sym (named-without_places vs g))
  stmt-without_places vs s (stmts.Filter t condition) =
      ap (λ (x : Graph (Unit {0})). table_value (filtered_vertices condition x.vertices))
      (sym (named-without_places vs t))
  stmt-without_places vs s (stmts.MapValues t sets) =
      ap (λ (x : Graph (Unit {0})). table_value (mapped_vertices sets x.vertices))
      (sym (named-without_places vs t))
  stmt-without_places vs s (stmts.Minus t u) =
      ap₂ (λ (x : Graph (Unit {0})) (y : Graph (Unit {0})). table_value
      (vertices_minus x.vertices y.vertices)) (sym (named-without_places vs t))
      (sym (named-without_places vs u))
  stmt-without_places vs s (stmts.Diff t u) =
      ap₂ (λ (x : Graph (Unit {0})) (y : Graph (Unit {0})). table_value
      (vertices_diff x.vertices y.vertices)) (sym (named-without_places vs t))
      (sym (named-without_places vs u))
  stmt-without_places vs s (stmts.InnerJoin t u sets) =
      ap₂ (λ (x : Graph (Unit {0})) (y : Graph (Unit {0})). table_value
      (inner_joined_vertices sets x.vertices y.vertices)) (sym (named-without_places vs t))
      (sym (named-without_places vs u))
  stmt-without_places vs s (stmts.LeftJoin t u default sets) =
      ap₂ (λ (x : Graph (Unit {0})) (y : Graph (Unit {0})). table_value
      (left_joined_vertices sets default x.vertices y.vertices))
      (sym (named-without_places vs t)) (sym (named-without_places vs u))
  stmt-without_places vs s _ = refl

  stmts-without_places : (before : List (Graph Place)) (s : ℕ) (ss : List TypedStmt)
      → map without_places (values_of_stmts placement loads before s ss)
      ≡ values_of_stmts unplaced loads (map without_places before) s ss
  stmts-without_places before s [] = refl
  stmts-without_places before s (st ∷ ss) =
      stmts-without_places (before ++ value_of_stmt placement loads before s st ∷ []) (s + 1) ss
      ∙ ap (λ vs. values_of_stmts unplaced loads vs (s + 1) ss)
      (map-append without_places before (value_of_stmt placement loads before s st ∷ [])
      ∙ ap (λ v. map without_places before ++ v ∷ []) (stmt-without_places before s st))

  -- the values of a script without their places are its values over plain lists
  pub script-without_places : (ss : List TypedStmt)
      → map without_places (values_of_script placement loads ss)
      ≡ values_of_script unplaced loads ss
  script-without_places ss = stmts-without_places [] 1 ss

-- ---- faults and answers

module _ {Place : Type 0} (vs : List (Graph Place)) where
  -- a fault does not depend on places
  pub fault-without_places : (s : ℕ) (st : TypedStmt)
      → fault_of_stmt (map without_places vs) s st ≡ fault_of_stmt vs s st
  fault-without_places s (stmts.MapVertices g sets) =
      ap (λ (x : Graph (Unit {0})). fault_over_vertices s (vertex_row_result sets) x.vertices)
      (named-without_places vs g)
  fault-without_places s (stmts.Filter t condition) =
      ap (λ (x : Graph (Unit {0})). fault_over_vertices s (vertex_test_result condition) x.vertices)
      (named-without_places vs t)
  fault-without_places s (stmts.MapValues t sets) =
      ap (λ (x : Graph (Unit {0})). fault_over_vertices s (vertex_row_result sets) x.vertices)
      (named-without_places vs t)
  fault-without_places s (stmts.InnerJoin t u sets) =
      ap₂ (λ (x : Graph (Unit {0})) (y : Graph (Unit {0})). fault_over_vertices s
      (join_row_result sets y.vertices []) (vertices_in_both x.vertices y.vertices))
      (named-without_places vs t) (named-without_places vs u)
  fault-without_places s (stmts.LeftJoin t u default sets) =
      ap₂ (λ (x : Graph (Unit {0})) (y : Graph (Unit {0})). fault_over_vertices s
      (join_row_result sets y.vertices default) x.vertices) (named-without_places vs t)
      (named-without_places vs u)
  fault-without_places s _ = refl

  -- nor does an answer
  pub answer-without_places : (checked : List CheckedStmt) (st : TypedStmt)
      → answer_of_stmt checked (map without_places vs) st ≡ answer_of_stmt checked vs st
  answer-without_places checked (stmts.PrintVertices g) =
      ap (λ (x : Graph (Unit {0})). Some
      (vertices_answer (made_named checked g).vertices x.vertices)) (named-without_places vs g)
  answer-without_places checked (stmts.PrintEdges g) =
      ap (λ (x : Graph (Unit {0})). Some
      (edges_answer (made_named checked g).edges (plain_edges x.edges)))
      (named-without_places vs g)
      ∙ ap (λ es. Some (edges_answer (made_named checked g).edges es))
      (plain-placed_anew (λ e. tt) (value_named vs g).edges)
  answer-without_places checked (stmts.PrintTable t) =
      ap (λ (x : Graph (Unit {0})). Some
      (vertices_answer (made_named checked t).vertices x.vertices)) (named-without_places vs t)
  answer-without_places checked (stmts.CountVertices g) =
      ap (λ (x : Graph (Unit {0})). Some (count_answer (length x.vertices)))
      (named-without_places vs g)
  answer-without_places checked (stmts.CountEdges g) =
      ap (λ (x : Graph (Unit {0})). Some (count_answer (length x.edges)))
      (named-without_places vs g)
      ∙ ap (λ n. Some (count_answer n)) (length-map (value_named vs g).edges (λ e. (tt, e.1)))
  answer-without_places checked (stmts.CountTable t) =
      ap (λ (x : Graph (Unit {0})). Some (count_answer (length x.vertices)))
      (named-without_places vs t)
  answer-without_places checked _ = refl
