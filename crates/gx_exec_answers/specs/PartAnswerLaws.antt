-- Answers from the parts of a value are the model's answers: laws for the crate that knows the
-- parts.
use Rattle.std.proofs.Common.{◌≡◌, List, Option, IsPermutation, length, flat_map, ap, sym}
use Rattle.std.specs.Map.{keys_of}
use Rattle.std.proofs.lemmas.List.Sorted.{IsPermutation-trans, length_permutation}
use Rattle.gx_rows.specs.Columns.{Column}
use Rattle.gx_rows.specs.Order.{Edge}
use Rattle.gx_index.specs.Ids.{IsAscending}
use Rattle.gx_epart.specs.Edges.{IsEdgeOrderOf, edge_order_of}
use Rattle.gx_model.specs.ActionAnswers.{count_answer, edges_answer, vertices_answer}
use Rattle.gx_model.specs.Graphs.{Vertex}
use Rattle.gx_exec_answers.specs.AnswerRows.{rows_of_edges}
use Rattle.gx_exec_answers.specs.VertexOrder.{id_order_of}
use Rattle.gx_exec_answers.specs.EdgeOrderLaws.{
  IsPermutation-ordered_parts,
  edge_order_of-IsPermutation,
}
use Rattle.gx_exec_answers.specs.VertexOrderLaws.{id_order_of-ascending}

-- the vertices of a table, in any order
pub vertices_answer-of_parts : (columns : Option (List Column)) (vertices all : List Vertex)
    → IsAscending (keys_of vertices) → IsPermutation vertices all
    → vertices_answer columns (id_order_of all) ≡ vertices_answer columns vertices
vertices_answer-of_parts columns vertices all ascending same =
    ap (vertices_answer columns) (id_order_of-ascending vertices all ascending same)

-- given that edges have one edge order (`edge_order_is_unique` of gx_epart)
module _ (unique : (edges ordered : List Edge) → IsEdgeOrderOf edges ordered
    → ordered ≡ edge_order_of edges) where
  -- edges in any order
  pub edges_answer-of_parts : (columns : Option (List Column)) (edges all : List Edge)
      → IsPermutation edges all → edges_answer columns all ≡ edges_answer columns edges
  edges_answer-of_parts columns edges all same =
      ap (λ es. record { header = (edges_answer columns edges).header; rows = rows_of_edges es })
      (sym (edge_order_of-IsPermutation unique edges all same))

  -- the edges of parts, each in edge order
  pub edges-of_ordered_parts : {J : Type 0} (part : J → List Edge) (js : List J) (edges : List Edge)
      → IsPermutation edges (flat_map part js)
      → IsPermutation edges (flat_map (λ j. edge_order_of (part j)) js)
  edges-of_ordered_parts part js edges same =
      IsPermutation-trans edges (flat_map part js) (flat_map (λ j. edge_order_of (part j)) js) same
      (IsPermutation-ordered_parts unique part js)

-- the number of items, in any order
pub count_answer-of_parts : {X : Type 0} (xs all : List X) → IsPermutation xs all
    → count_answer (length all) ≡ count_answer (length xs)
count_answer-of_parts xs all same = ap count_answer (length_permutation xs all same)
