-- The parts of tables and of edges, and what a block holds of them.
use Rattle.std.specs.Prelude.{ℕ, ◌==◌, List, [], ◌∷◌, filter, Option, None, Some, option_map, Result}
use Rattle.std.specs.Option.{option_or}
use Rattle.gx_epart.specs.Edges.{edge_order_of}
use Rattle.gx_gops.specs.Tables.{is_in_part}
use Rattle.gx_index.specs.Ids.{id_cmp}
use Rattle.gx_model.specs.Graphs.{Graph, Vertex, plain_edges}
use Rattle.gx_model.specs.StmtFaults.{KeyFault, faults_on_vertices, least_fault}
use Rattle.gx_model.specs.Values.{join_row_result, vertex_row_result, vertex_test_result, vertices_in_both}
use Rattle.gx_plan.specs.Recipes.{graph_of}
use Rattle.gx_plan.specs.declared.kind.Kind.{Kind}
use Rattle.gx_plan.specs.declared.kind.Kind.TheVariants as kind
use Rattle.gx_plan.specs.declared.recipe.Recipe.{Recipe}
use Rattle.gx_rows.specs.Order.{Edge}
use Rattle.gx_rows.specs.declared.cause.Cause.{Cause}
use Rattle.gx_rows.specs.declared.row_key.RowKey.{RowKey}
use Rattle.gx_rows.specs.declared.row_key.RowKey.TheVariants as row_key
use Rattle.gx_rows.specs.declared.vid.Vid.{Vid}
use Rattle.gx_types_stmts.specs.declared.typed_stmt.TypedStmt.{TypedStmt}
use Rattle.gx_types_stmts.specs.declared.typed_stmt.TypedStmt.TheVariants as stmts
use Rattle.gx_exec_contents.specs.Worlds.{World, value_at, value_in}

-- ---- parts

-- the vertices of part i of `parts`
abbrev pub part_of_vertices : ℕ → ℕ → List Vertex → List Vertex
part_of_vertices parts i vertices = filter (λ v. is_in_part i parts v.0) vertices

-- the edges that are placed in part i
abbrev pub part_of_edges : ℕ → List (ℕ × Edge) → List Edge
part_of_edges i edges = plain_edges (filter (λ e. e.0 == i) edges)

-- a value with the vertices, or the edges, of part i alone: what a node of this kind takes in parts
abbrev pub part_of_value : Kind → ℕ → ℕ → Graph ℕ → Graph ℕ
part_of_value kind.Vertices parts i g = record g { vertices = part_of_vertices parts i g.vertices }
part_of_value kind.Edges parts i g = record g { edges = filter (λ e. e.0 == i) g.edges }

-- ---- contents

-- the vertex or edge on which an expression has no value, the number of the node, and why
pub record BlockStop : Type 0 where
  pub key : RowKey
  pub expr : ℕ
  pub cause : Cause

-- what a block holds
pub data Content : Type 0 where
  -- vertices, ascending
  Table : List Vertex → Content
  -- edges, in edge order
  Edges : List Edge → Content
  -- nothing, since the block or one that it is computed from has a fault
  Stopped : BlockStop → Content

-- part i of a value, by the kind of its rows
abbrev pub part_of_result : Kind → ℕ → ℕ → Graph ℕ → Content
part_of_result kind.Vertices parts i g = Table (part_of_vertices parts i g.vertices)
part_of_result kind.Edges parts i g = Edges (edge_order_of (part_of_edges i g.edges))

-- what part i of a node of this kind and recipe holds, if nothing is at fault
abbrev pub held_kind : World → Kind → Recipe → ℕ → Content
held_kind w kind.Vertices r i = part_of_result kind.Vertices w.parts i (value_at w (graph_of r))
held_kind w kind.Edges r i = part_of_result kind.Edges w.parts i (value_at w (graph_of r))

-- ---- faults

abbrev pub stop_on_vertex : KeyFault Vid → BlockStop
stop_on_vertex f = record { key = row_key.Vertex f.0; expr = f.1.1; cause = f.1.0 }

-- the fault of what computes this on each of these vertices
abbrev pub stop_over_vertices : {A : Type 0} → (Vertex → Result A (Cause × ℕ)) → List Vertex → Option BlockStop
stop_over_vertices result vertices = option_map stop_on_vertex (least_fault id_cmp (faults_on_vertices result vertices))

-- the fault of a statement's node of this kind and recipe, over values that are cut to a part or whole
abbrev pub fault_kind : World → Kind → Recipe → (Graph ℕ → Graph ℕ) → TypedStmt → Option BlockStop
fault_kind w kind.Vertices r cut (stmts.MapVertices g sets) =
    stop_over_vertices (vertex_row_result sets) (cut (value_in w g)).vertices
fault_kind w kind.Vertices r cut (stmts.Filter t condition) =
    stop_over_vertices (vertex_test_result condition) (cut (value_in w t)).vertices
fault_kind w kind.Vertices r cut (stmts.MapValues t sets) =
    stop_over_vertices (vertex_row_result sets) (cut (value_in w t)).vertices
fault_kind w kind.Vertices r cut (stmts.InnerJoin t u sets) =
    stop_over_vertices (join_row_result sets (cut (value_in w u)).vertices [])
    (vertices_in_both (cut (value_in w t)).vertices (cut (value_in w u)).vertices)
fault_kind w kind.Vertices r cut (stmts.LeftJoin t u default sets) =
    stop_over_vertices (join_row_result sets (cut (value_in w u)).vertices default)
    (cut (value_in w t)).vertices
fault_kind w _ r cut _ = None

-- ---- stops

-- the stop, or else the content
abbrev pub stop_or : Option BlockStop → Content → Content
stop_or (Some stop) content = Stopped stop
stop_or None content = content

abbrev pub stop_in : Content → Option BlockStop
stop_in (Stopped stop) = Some stop
stop_in _ = None

-- what f gives at the first item at which it gives something
abbrev pub first_given : {X A : Type 0} → (X → Option A) → List X → Option A
first_given f [] = None
first_given f (x ∷ xs) = option_or (f x) (first_given f xs)
