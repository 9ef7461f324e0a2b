-- The blocks of a script of four statements in two parts.
--
--     vertices t from "t" (age: int); edges e from "e" (w: int);
--     graph g = t, e default (0); fromedges f = e default (7);
--
-- where the file of `t` has the rows 3,30 and 1,25, and that of `e` the edges 2,3,1 and 1,2,4. Of two
-- parts, vertices 1 and 3 are in the first and 2 is in the second, and an edge is where its source is.
use Rattle.std.specs.Prelude.{◌≡◌, ℕ, pos, false, List, [], ◌∷◌, None, Ok, Err, map, refl}
use Rattle.gx_cuts.specs.Mixing.{mix_of}
use Rattle.gx_rows.specs.declared.cut.Cut.TheVariants.{OneD, Rows}
use Rattle.gx_lineage.specs.declared.block_id.BlockId.{BlockId}
use Rattle.gx_model.specs.ScriptMeaning.{plain_values}
use Rattle.gx_model.specs.Values.{value_named}
use Rattle.gx_plan.specs.PlanLaws.{MovesByEnds}
use Rattle.gx_plan.specs.Plans.{Planned, empty_plan, with_number}
use Rattle.gx_plan.specs.Recipes.{recipe_of}
use Rattle.gx_plan.specs.StmtNodes.{ScriptWithCut}
use Rattle.gx_plan.specs.declared.kind.Kind.TheVariants as kind
use Rattle.gx_rows.specs.declared.cause.Cause.TheVariants as cause
use Rattle.gx_rows.specs.declared.row_key.RowKey.TheVariants as row_key
use Rattle.gx_rows.specs.declared.value.Value.TheVariants.{Int}
use Rattle.gx_rows.specs.declared.vid.Vid.{Vid}
use Rattle.gx_types_stmts.specs.StmtNumbers.{named_numbers}
use Rattle.gx_types_stmts.specs.declared.checked_stmt.CheckedStmt.{CheckedStmt}
use Rattle.gx_types_stmts.specs.declared.typed_stmt.TypedStmt.{TypedStmt}
use Rattle.gx_types_stmts.specs.declared.typed_stmt.TypedStmt.TheVariants as stmts
use Rattle.gx_vtable.specs.NewRows.{vertex_id}
use Rattle.gx_exec_contents.specs.BlockContents.{content_of, stop_of}
use Rattle.gx_exec_contents.specs.MadeBlocks.{made_by, made_kind, vertices_kept, vertices_made}
use Rattle.gx_exec_contents.specs.PartContents.{BlockStop, Content, Edges, Stopped, Table}
use Rattle.gx_exec_contents.specs.Worlds.{World, loaded_in, placed_values, source_of, value_in}

vertex : ℕ → Vid
vertex n = record { 0 = pos n }

checked_as : TypedStmt → CheckedStmt
checked_as st = record { stmt = st; made = record { vertices = None; edges = None }; uses = named_numbers st }

four_statements : World
four_statements = record {
  script = map checked_as (stmts.Vertices [] ∷ stmts.Edges [] ∷ stmts.Graph 1 2 (Int (pos 0) ∷ []) ∷ stmts.FromEdges 2 (Int (pos 7) ∷ []) ∷ []);
  loads =
      (1, (vertex 3, vertex 0, Int (pos 30) ∷ []) ∷ (vertex 1, vertex 0, Int (pos 25) ∷ []) ∷ [])
      ∷ (2, (vertex 2, vertex 3, Int (pos 1) ∷ []) ∷ (vertex 1, vertex 2, Int (pos 4) ∷ []) ∷ [])
      ∷ [];
  parts = 2;
  cut = OneD;
}

with_numbers : ScriptWithCut → Planned → List ℕ → Planned
with_numbers source p [] = p
with_numbers source p (s ∷ ss) = with_numbers source (with_number source p s) ss

-- its nodes are the vertices of `t`, the edges of `e`, and the vertices of `g` and of `f`
plan_of_four : Planned
plan_of_four = with_numbers (source_of four_statements) (empty_plan 2 4) (1 ∷ 2 ∷ 3 ∷ 4 ∷ [])

block : ℕ → ℕ → BlockId
block node part = record { node = record { 0 = node }; part = part }

content_of_four : ℕ → ℕ → Content
content_of_four node part = content_of four_statements plan_of_four (block node part)

-- `t` has no vertex in the second part, and `g` has the end 2 there
contents-of_vertices : (content_of_four 0 0 ≡ Table ((vertex 1, Int (pos 25) ∷ []) ∷ (vertex 3, Int (pos 30) ∷ []) ∷ []))
    × (content_of_four 0 1 ≡ Table [])
    × (content_of_four 2 0 ≡ Table ((vertex 1, Int (pos 25) ∷ []) ∷ (vertex 3, Int (pos 30) ∷ []) ∷ []))
    × (content_of_four 2 1 ≡ Table ((vertex 2, Int (pos 0) ∷ []) ∷ []))
    × (content_of_four 3 0 ≡ Table ((vertex 1, Int (pos 7) ∷ []) ∷ (vertex 3, Int (pos 7) ∷ []) ∷ []))
unfolding vertex checked_as four_statements with_numbers plan_of_four block content_of_four placed_values stop_of mix_of
contents-of_vertices = (refl, refl, refl, refl, refl)

-- each edge is in the part of its source
contents-of_edges : (content_of_four 1 0 ≡ Edges ((vertex 1, vertex 2, Int (pos 4) ∷ []) ∷ []))
    × (content_of_four 1 1 ≡ Edges ((vertex 2, vertex 3, Int (pos 1) ∷ []) ∷ []))
unfolding vertex checked_as four_statements with_numbers plan_of_four block content_of_four placed_values stop_of mix_of
contents-of_edges = (refl, refl)

-- a division by zero at vertex 5
stop_at_five : BlockStop
stop_at_five = record { key = row_key.Vertex (vertex 5); expr = 1; cause = cause.DivideByZero }

-- the second part of `g` reads the second part of `t` and all edges, and is stopped if one of them is
made-stopped : made_by four_statements (recipe_of kind.Vertices 3) 1 (Table [] ∷ Edges [] ∷ Stopped stop_at_five ∷ []) ≡ Stopped stop_at_five
unfolding four_statements
made-stopped = refl

-- ---- edges that move

-- edges e from "e" (w: int); fromedges f = e (7); partition p = f by oned;
-- under `rows` the first edge of the file is in the first part, and the second one in the second
moving : World
moving = record {
  script = map checked_as (stmts.Edges [] ∷ stmts.FromEdges 1 (Int (pos 7) ∷ []) ∷ stmts.Partition 2 OneD ∷ []);
  loads = (1, (vertex 2, vertex 3, Int (pos 1) ∷ []) ∷ (vertex 1, vertex 2, Int (pos 4) ∷ []) ∷ []) ∷ [];
  parts = 2;
  cut = Rows;
}

-- each edge is in the part of its source after `partition`
value-moved : ((value_in moving 2).edges ≡ (0, (vertex 2, vertex 3, Int (pos 1) ∷ [])) ∷ (1, (vertex 1, vertex 2, Int (pos 4) ∷ [])) ∷ [])
    × ((value_in moving 3).edges ≡ (1, (vertex 2, vertex 3, Int (pos 1) ∷ [])) ∷ (0, (vertex 1, vertex 2, Int (pos 4) ∷ [])) ∷ [])
unfolding vertex checked_as moving placed_values mix_of
value-moved = (refl, refl)

-- which over plain lists changes nothing
value-plain : (value_named (plain_values (loaded_in moving)) 3).edges ≡ (tt, (vertex 2, vertex 3, Int (pos 1) ∷ [])) ∷ (tt, (vertex 1, vertex 2, Int (pos 4) ∷ [])) ∷ []
unfolding vertex checked_as moving
value-plain = refl

-- `oned` places an edge by its source, whatever its ordinal
oned-moves_by_ends : MovesByEnds (stmts.Partition 2 OneD)
oned-moves_by_ends = λ same. cc

-- the first part of `p` is made of all parts of `f`
made-moved : made_by moving (recipe_of kind.Edges 3) 0
    (Edges ((vertex 2, vertex 3, Int (pos 1) ∷ []) ∷ []) ∷ Edges ((vertex 1, vertex 2, Int (pos 4) ∷ []) ∷ []) ∷ [])
    ≡ Edges ((vertex 1, vertex 2, Int (pos 4) ∷ []) ∷ [])
unfolding vertex checked_as moving mix_of
made-moved = refl

-- ---- two tables

-- a part of `minus` and one of `diff`, of a part with 1,25 and 3,30 and one with 3,31
made-of_two : (made_kind moving kind.Vertices (recipe_of kind.Vertices 4) 0 (stmts.Minus 1 2) (Table ((vertex 1, Int (pos 25) ∷ []) ∷ (vertex 3, Int (pos 30) ∷ []) ∷ []) ∷ Table ((vertex 3, Int (pos 31) ∷ []) ∷ []) ∷ [])
    ≡ Table ((vertex 1, Int (pos 25) ∷ []) ∷ []))
    × (made_kind moving kind.Vertices (recipe_of kind.Vertices 4) 0 (stmts.Diff 1 2) (Table ((vertex 1, Int (pos 25) ∷ []) ∷ (vertex 3, Int (pos 30) ∷ []) ∷ []) ∷ Table ((vertex 3, Int (pos 31) ∷ []) ∷ []) ∷ [])
    ≡ Table ((vertex 3, Int (pos 31) ∷ []) ∷ []))
unfolding vertex
made-of_two = (refl, refl)

-- a vertex without a value stops the block, if a row is made of each vertex, and if each is tested
made-without_value : (vertices_made vertex_id (λ v. Err (cause.DivideByZero, 1)) ((vertex 5, []) ∷ (vertex 6, []) ∷ []) ≡ Stopped stop_at_five)
    × (vertices_kept (λ v. Err (cause.DivideByZero, 1)) ((vertex 5, []) ∷ (vertex 6, []) ∷ []) ≡ Stopped stop_at_five)
    × (vertices_kept (λ v. Ok false) ((vertex 5, []) ∷ []) ≡ Table [])
unfolding vertex stop_at_five
made-without_value = (refl, refl, refl)
