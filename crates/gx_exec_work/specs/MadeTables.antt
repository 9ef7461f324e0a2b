-- What is made of the contents of inputs, by the tables among them.
use Rattle.std.specs.Prelude.{◌≡◌, ℕ, Option, None, Some, List, [], ◌∷◌, drop, refl}
use Rattle.gx_exec_contents.specs.MadeBlocks.{completed, mapped, vertices_held, vertices_kept, vertices_made}
use Rattle.gx_exec_contents.specs.PartContents.{Content, Edges, Table, part_of_vertices}
use Rattle.gx_exec_contents.specs.Worlds.{World}
use Rattle.gx_expr.specs.declared.expr.Expr.{Expr}
use Rattle.gx_gops.specs.Tables.{table_of}
use Rattle.gx_model.specs.Graphs.{Vertex}
use Rattle.gx_model.specs.Values.{vertices_loaded}
use Rattle.gx_plan.specs.declared.recipe.Recipe.{Recipe}
use Rattle.gx_rows.specs.declared.value.Value.{Value}
use Rattle.gx_types_stmts.specs.declared.typed_stmt.TypedStmt.{TypedStmt}
use Rattle.gx_types_stmts.specs.declared.typed_stmt.TypedStmt.TheVariants as stmts
use Rattle.gx_vpart.specs.Operators.{diff, inner_join, left_join, minus}
use Rattle.gx_vtable.specs.NewRows.{inner_row, join_id, left_row, test_result}

-- the vertices of the first input, if there is one
abbrev pub first_table : List Content → Option (List Vertex)
first_table [] = None
first_table (c ∷ contents) = Some (vertices_held c)

-- those of the first two inputs, if there are two
abbrev pub two_tables : List Content → Option (List Vertex × List Vertex)
two_tables (c ∷ d ∷ contents) = Some (vertices_held c, vertices_held d)
two_tables _ = None

-- what is made of tables; no vertex if they are not there
abbrev pub made_if : {A : Type 0} → (A → Content) → Option A → Content
made_if make None = Table []
made_if make (Some tables) = make tables

-- two tables joined, with new rows; and the first of them joined with the second, or else with the default
abbrev pub inner_made : List Expr → List Vertex × List Vertex → Content
inner_made sets p = vertices_made join_id (inner_row sets) (inner_join p.0 p.1)

abbrev pub left_made : List Value → List Expr → List Vertex × List Vertex → Content
left_made default sets p = vertices_made join_id (left_row sets default) (left_join p.0 p.1)

-- part i of the vertices of a graph, by its table and the edges after it
abbrev pub graph_made : World → ℕ → List Value → List Content → Content
graph_made w i default contents = made_if (λ vertices. completed w i vertices default (drop 1 contents)) (first_table contents)

-- part i of the vertices of a statement, by their recipe, made of inputs that are not stopped
abbrev pub made_vertices : World → Recipe → ℕ → TypedStmt → List Content → Content
made_vertices w r i (stmts.Vertices file) contents =
    Table (table_of (part_of_vertices w.parts i (vertices_loaded w.loads r.statement)))
made_vertices w r i (stmts.Graph t e default) contents = graph_made w i default contents
made_vertices w r i (stmts.FromEdges e row) contents = completed w i [] row contents
made_vertices w r i (stmts.MapVertices g sets) contents =
    made_if (mapped sets) (first_table contents)
made_vertices w r i (stmts.Filter t condition) contents =
    made_if (vertices_kept (test_result condition)) (first_table contents)
made_vertices w r i (stmts.MapValues t sets) contents = made_if (mapped sets) (first_table contents)
made_vertices w r i (stmts.Minus t u) contents =
    made_if (λ p. Table (minus p.0 p.1)) (two_tables contents)
made_vertices w r i (stmts.Diff t u) contents =
    made_if (λ p. Table (diff p.0 p.1)) (two_tables contents)
made_vertices w r i (stmts.InnerJoin t u sets) contents =
    made_if (inner_made sets) (two_tables contents)
made_vertices w r i (stmts.LeftJoin t u default sets) contents =
    made_if (left_made default sets) (two_tables contents)
made_vertices w r i _ contents = Table []

-- the second input has no table here, so that it counts as empty; without it there is nothing to make
two_tables-example : (two_tables (Table [] ∷ Edges [] ∷ []) ≡ Some ([], [])) × (two_tables (Table [] ∷ []) ≡ None)
two_tables-example = (refl, refl)
