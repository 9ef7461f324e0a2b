-- What is made of the contents of a block's inputs.
use Rattle.std.specs.Prelude.{ℕ, Bool, List, [], ◌∷◌, ◌++◌, flat_map, option_map, Result}
use Rattle.gx_rows.specs.declared.cut.Cut.{Cut}
use Rattle.gx_epart.specs.Edges.{edge_order_of}
use Rattle.gx_exec_contents.specs.PartContents.{Content, Edges, Table, first_given, part_of_edges, part_of_vertices, stop_in, stop_on_vertex, stop_or}
use Rattle.gx_exec_contents.specs.Worlds.{World, place_in}
use Rattle.gx_gops.specs.Moving.{edges_placed_in}
use Rattle.gx_gops.specs.Tables.{default_rows, ends_in_part, table_of}
use Rattle.gx_model.specs.Graphs.{Vertex, placed_from}
use Rattle.gx_model.specs.Values.{rows_loaded, vertices_loaded}
use Rattle.gx_plan.specs.StmtNodes.{statement_of}
use Rattle.gx_plan.specs.declared.kind.Kind.{Kind}
use Rattle.gx_plan.specs.declared.kind.Kind.TheVariants as kind
use Rattle.gx_plan.specs.declared.recipe.Recipe.{Recipe}
use Rattle.gx_rows.specs.Order.{Edge}
use Rattle.gx_rows.specs.declared.cause.Cause.{Cause}
use Rattle.gx_rows.specs.declared.value.Value.{Value}
use Rattle.gx_rows.specs.declared.vid.Vid.{Vid}
use Rattle.gx_types_stmts.specs.declared.typed_stmt.TypedStmt.{TypedStmt}
use Rattle.gx_types_stmts.specs.declared.typed_stmt.TypedStmt.TheVariants as stmts
use Rattle.gx_vpart.specs.Operators.{diff, inner_join, left_join, minus}
use Rattle.gx_vtable.specs.Kernels.{earliest_fault, rows_kept, rows_made}
use Rattle.gx_vtable.specs.NewRows.{inner_row, join_id, left_row, mapped_row, test_result, vertex_id}
use Rattle.gx_expr.specs.declared.expr.Expr.{Expr}

-- the vertices of a content; none of another kind
abbrev pub vertices_held : Content → List Vertex
vertices_held (Table vertices) = vertices
vertices_held _ = []

-- the edges of a content; none of another kind
abbrev pub edges_held : Content → List Edge
edges_held (Edges edges) = edges
edges_held _ = []

-- the vertices, and the default row for each end of the edges that is in the part and has none
abbrev pub completed : World → ℕ → List Vertex → List Value → List Content → Content
completed w i vertices default contents =
    Table (table_of (vertices ++ default_rows default (ends_in_part i w.parts (flat_map edges_held contents))))

-- the new rows of these items, or the fault of the first that has one
abbrev pub vertices_made : {A : Type 0} → (A → Vid) → (A → Result (List Value) (Cause × ℕ)) → List A → Content
vertices_made id_of row_of items =
    stop_or (option_map stop_on_vertex (earliest_fault id_of row_of items)) (Table (rows_made id_of row_of items))

-- the vertices with new rows
abbrev pub mapped : List Expr → List Vertex → Content
mapped sets vertices = vertices_made vertex_id (mapped_row sets) vertices

-- the vertices on which the test holds, or the fault of the first that has one
abbrev pub vertices_kept : (Vertex → Result Bool (Cause × ℕ)) → List Vertex → Content
vertices_kept holds vertices =
    stop_or (option_map stop_on_vertex (earliest_fault vertex_id holds vertices)) (Table (rows_kept holds vertices))

-- the edges that the cut places in the part
abbrev pub edges_moved : World → ℕ → Cut → List Content → Content
edges_moved w i cut contents = Edges (edge_order_of (edges_placed_in cut i w.parts (flat_map edges_held contents)))

-- part i of a statement's node of this kind and recipe, made of inputs that are not stopped
abbrev pub made_kind : World → Kind → Recipe → ℕ → TypedStmt → List Content → Content
made_kind w kind.Vertices r i (stmts.Vertices file) contents =
    Table (table_of (part_of_vertices w.parts i (vertices_loaded w.loads r.statement)))
made_kind w kind.Edges r i (stmts.Edges file) contents =
    Edges (edge_order_of (part_of_edges i (placed_from (place_in w) 0 (rows_loaded w.loads r.statement))))
made_kind w kind.Edges r i (stmts.EdgeList file oriented) contents =
    Edges (edge_order_of (part_of_edges i (placed_from (place_in w) 0 (rows_loaded w.loads r.statement))))
made_kind w kind.Vertices r i (stmts.Graph t e default) (c ∷ contents) =
    completed w i (vertices_held c) default contents
made_kind w kind.Vertices r i (stmts.FromEdges e row) contents = completed w i [] row contents
made_kind w kind.Edges r i (stmts.Partition g cut) contents = edges_moved w i cut contents
made_kind w kind.Vertices r i (stmts.MapVertices g sets) (c ∷ contents) =
    mapped sets (vertices_held c)
made_kind w kind.Vertices r i (stmts.Filter t condition) (c ∷ contents) =
    vertices_kept (test_result condition) (vertices_held c)
made_kind w kind.Vertices r i (stmts.MapValues t sets) (c ∷ contents) =
    mapped sets (vertices_held c)
made_kind w kind.Vertices r i (stmts.Minus t u) (c ∷ d ∷ contents) =
    Table (minus (vertices_held c) (vertices_held d))
made_kind w kind.Vertices r i (stmts.Diff t u) (c ∷ d ∷ contents) =
    Table (diff (vertices_held c) (vertices_held d))
made_kind w kind.Vertices r i (stmts.InnerJoin t u sets) (c ∷ d ∷ contents) =
    vertices_made join_id (inner_row sets) (inner_join (vertices_held c) (vertices_held d))
made_kind w kind.Vertices r i (stmts.LeftJoin t u default sets) (c ∷ d ∷ contents) =
    vertices_made join_id (left_row sets default) (left_join (vertices_held c) (vertices_held d))
made_kind w kind.Vertices r i _ contents = Table []
made_kind w kind.Edges r i _ contents = Edges []

-- part i of a node of this recipe, made of these contents of inputs: stopped if one of them is
abbrev pub made_by : World → Recipe → ℕ → List Content → Content
made_by w r i contents =
    stop_or (first_given stop_in contents)
    (made_kind w r.kind r i (statement_of w.script r.statement) contents)
