-- What an action prints, read from the blocks that a cluster holds.
use Rattle.std.specs.Prelude.{◌≡◌, ℕ, pos, codes, List, [], ◌∷◌, None, Some, filter_map, flat_map, length, refl}
use Rattle.gx_cluster.specs.States.{held_value}
use Rattle.gx_cluster_state.specs.declared.held.Held.{Held}
use Rattle.gx_exec_answers.specs.VertexOrder.{id_order_of}
use Rattle.gx_exec_contents.specs.MadeBlocks.{edges_held, vertices_held}
use Rattle.gx_exec_contents.specs.PartContents.{Content, Edges, Table}
use Rattle.gx_exec_work.specs.Works.{shown_blocks}
use Rattle.gx_exec_work.specs.declared.block.Block.{Block}
use Rattle.gx_lineage.specs.declared.block_id.BlockId.{BlockId}
use Rattle.gx_model.specs.ActionAnswers.{Answer, count_answer, edges_answer, made_named, vertices_answer}
use Rattle.gx_plan.specs.StmtNodes.{statement_of}
use Rattle.gx_rows.specs.declared.value.Value.TheVariants.{Int}
use Rattle.gx_rows.specs.declared.value.ValueKind.TheVariants as value_kind
use Rattle.gx_rows.specs.declared.vid.Vid.{Vid}
use Rattle.gx_types_stmts.specs.declared.checked_stmt.CheckedStmt.{CheckedStmt}
use Rattle.gx_types_stmts.specs.declared.typed_stmt.TypedStmt.{TypedStmt}
use Rattle.gx_types_stmts.specs.declared.typed_stmt.TypedStmt.TheVariants as stmts

-- the contents of those of these blocks that are held
abbrev pub held_contents : List (BlockId × Held Block) → List BlockId → List Content
held_contents held bs = shown_blocks (filter_map (held_value held) bs)

-- what a statement prints, if its rows are in these contents: a content of another kind has no rows
abbrev pub answer_of_contents : List CheckedStmt → TypedStmt → List Content → Answer
answer_of_contents script (stmts.PrintVertices g) contents =
    vertices_answer (made_named script g).vertices (id_order_of (flat_map vertices_held contents))
answer_of_contents script (stmts.PrintEdges g) contents =
    edges_answer (made_named script g).edges (flat_map edges_held contents)
answer_of_contents script (stmts.PrintTable t) contents =
    vertices_answer (made_named script t).vertices (id_order_of (flat_map vertices_held contents))
answer_of_contents script (stmts.CountVertices g) contents = count_answer (length (flat_map vertices_held contents))
answer_of_contents script (stmts.CountEdges g) contents = count_answer (length (flat_map edges_held contents))
answer_of_contents script (stmts.CountTable t) contents = count_answer (length (flat_map vertices_held contents))
answer_of_contents script _ contents = count_answer 0

-- what action a prints, read from these contents
unfoldable pub answer_of_blocks : List CheckedStmt → ℕ → List Content → Answer
answer_of_blocks script a contents = answer_of_contents script (statement_of script a) contents

-- ---- examples

vertex : ℕ → Vid
vertex n = record { 0 = pos n }

ages : List CheckedStmt
ages =
    record {
      stmt = stmts.Vertices [];
      made = record { vertices = Some ((codes "age", value_kind.Int) ∷ []); edges = None };
      uses = [];
    }
    ∷ record { stmt = stmts.PrintTable 1; made = record { vertices = None; edges = None }; uses = 1 ∷ [] }
    ∷ []

-- the vertices 1 and 3 are in one block and 2 in the other, and a block of edges has no vertices
answer_of_blocks-example : answer_of_blocks ages 2
    (Table ((vertex 1, Int (pos 25) ∷ []) ∷ (vertex 3, Int (pos 30) ∷ []) ∷ []) ∷ Edges [] ∷ Table ((vertex 2, Int (pos 41) ∷ []) ∷ []) ∷ [])
    ≡ record {
      header = codes "id" ∷ codes "age" ∷ [];
      rows =
          (Int (pos 1) ∷ Int (pos 25) ∷ [])
          ∷ (Int (pos 2) ∷ Int (pos 41) ∷ [])
          ∷ (Int (pos 3) ∷ Int (pos 30) ∷ [])
          ∷ [];
    }
unfolding vertex ages answer_of_blocks
answer_of_blocks-example = refl
