-- What each statement is checked for after its names, in the order sends, merges, constants, other
-- expressions, columns; and what it makes.
use Rattle.std.specs.Prelude.{ℕ, Option, Bool, Result, Ok, List, [], ◌∷◌, map, sum, codes}
use Rattle.gx_rows.specs.Results.{◌>>=◌}
use Rattle.gx_rows.specs.declared.value.ValueKind.TheVariants as kind
use Rattle.gx_syntax_tree.specs.Bounds.{node_count}
use Rattle.gx_syntax_tree.specs.declared.constant.ColumnConst.{ColumnConst}
use Rattle.gx_syntax_tree.specs.declared.constant.Const.{Const}
use Rattle.gx_syntax_tree.specs.declared.expr.Expr.{Expr as Written}
use Rattle.gx_syntax_tree.specs.declared.parts.ColumnDecl.{ColumnDecl}
use Rattle.gx_syntax_tree.specs.declared.parts.ColumnExpr.{ColumnExpr}
use Rattle.gx_syntax_tree.specs.declared.parts.ColumnMerge.{ColumnMerge}
use Rattle.gx_syntax_tree.specs.declared.parts.SendClause.{SendClause}
use Rattle.gx_syntax_tree.specs.declared.words.ActiveWord.{ActiveWord}
use Rattle.gx_syntax_tree.specs.declared.words.CutWord.{CutWord}
use Rattle.gx_types_exprs.specs.ExprScopes.{vertex_scope, triplet_scope, edge_scope, join_scope}
use Rattle.gx_types_exprs.specs.ExprScopes.{outer_join_scope, program_scope}
use Rattle.gx_types_clauses.specs.Constants.{constant_row, named_columns, named_values}
use Rattle.gx_types_stmts.specs.Makes.{OperandTypes, table_stmt, edges_stmt, graph_stmt}
use Rattle.gx_types_clauses.specs.DeclaredColumns.{declared_columns, lone_column}
use Rattle.gx_types_clauses.specs.Merging.{grouped_columns, merge_kinds, message_columns}
use Rattle.gx_types_clauses.specs.SameColumns.{checked_same_columns, checked_same_kinds}
use Rattle.gx_types_clauses.specs.Sending.{typed_sends}
use Rattle.gx_types_clauses.specs.StmtWords.{cut_of_written, direction_of_written}
use Rattle.gx_types_clauses.specs.ValueTyping.{column_values, typed_condition, typed_sets}
use Rattle.gx_types_clauses.specs.ValueTyping.{typed_test}
use Rattle.gx_types_stmts.specs.declared.typed_body.TypedBody.{TypedBody}
use Rattle.gx_types_clauses.specs.declared.stmt_stop.StmtStop.{StmtStop}
use Rattle.gx_types_stmts.specs.declared.typed_stmt.TypedStmt.{TypedStmt}
use Rattle.gx_types_stmts.specs.declared.typed_stmt.TypedStmt.TheVariants as typed

-- ---- loads

abbrev pub loaded_vertices : List ℕ → List ColumnDecl → TypedBody
loaded_vertices file columns = table_stmt (typed.Vertices file) (declared_columns columns)

abbrev pub loaded_edges : List ℕ → List ColumnDecl → TypedBody
loaded_edges file columns = edges_stmt (typed.Edges file) (declared_columns columns)

abbrev pub loaded_edge_list : List ℕ → Bool → TypedBody
loaded_edge_list file oriented =
    edges_stmt (typed.EdgeList file oriented) (lone_column (codes "value") kind.Int)

-- ---- graphs

-- a graph with the types of another
abbrev pub same_graph : TypedStmt → OperandTypes → TypedBody
same_graph s g = graph_stmt s g.vertices g.edges

-- `graph`: the default row is one of vertices
abbrev pub built_graph : OperandTypes → OperandTypes → List Const → Result TypedBody StmtStop
built_graph vs es default = constant_row vs.vertices default >>= λ row.
    Ok (graph_stmt (typed.Graph vs.number es.number row) vs.vertices es.edges)

-- `fromedges`
abbrev pub graph_of_edges : OperandTypes → List ColumnConst → TypedBody
graph_of_edges es row =
    graph_stmt (typed.FromEdges es.number (named_values row)) (named_columns row) es.edges

-- `subgraph`: the nodes of the test of edges are numbered after those of the test of vertices
abbrev pub tested_graph : OperandTypes → Option Written → Option Written → Result TypedBody StmtStop
tested_graph g vs es = typed_test (vertex_scope g.vertices) 0 vs >>= λ v.
    typed_test (triplet_scope g.vertices g.edges) v.next es >>= λ e.
    Ok (same_graph (typed.Subgraph g.number v.test e.test) g)

-- `groupedges`
abbrev pub grouped_graph : OperandTypes → List ColumnMerge → Result TypedBody StmtStop
grouped_graph g merges = grouped_columns merges g.edges >>= λ edges.
    Ok (graph_stmt (typed.GroupEdges g.number (merge_kinds merges)) g.vertices edges)

-- `reverse`, `mask` and `partition` keep the columns
abbrev pub reversed_graph : OperandTypes → TypedBody
reversed_graph g = same_graph (typed.Reverse g.number) g

abbrev pub masked_graph : OperandTypes → OperandTypes → TypedBody
masked_graph g by = same_graph (typed.Mask g.number by.number) g

abbrev pub partitioned_graph : OperandTypes → CutWord → TypedBody
partitioned_graph g cut = same_graph (typed.Partition g.number (cut_of_written cut)) g

-- ---- maps

abbrev pub mapped_vertices_stmt : OperandTypes → List ColumnExpr → Result TypedBody StmtStop
mapped_vertices_stmt g sets = typed_sets (vertex_scope g.vertices) sets >>= λ s.
    Ok (graph_stmt (typed.MapVertices g.number s.exprs) s.columns g.edges)

abbrev pub mapped_edges_stmt : OperandTypes → List ColumnExpr → Result TypedBody StmtStop
mapped_edges_stmt g sets = typed_sets (edge_scope g.edges) sets >>= λ s.
    Ok (graph_stmt (typed.MapEdges g.number s.exprs) g.vertices s.columns)

abbrev pub mapped_triplets_stmt : OperandTypes → List ColumnExpr → Result TypedBody StmtStop
mapped_triplets_stmt g sets = typed_sets (triplet_scope g.vertices g.edges) sets >>= λ s.
    Ok (graph_stmt (typed.MapTriplets g.number s.exprs) g.vertices s.columns)

-- ---- joins

-- `joinvertices`: the vertices keep their columns
abbrev pub joined_vertices : OperandTypes → OperandTypes → List ColumnExpr
    → Result TypedBody StmtStop
joined_vertices g t sets = typed_sets (join_scope g.vertices t.vertices) sets >>= λ s.
    checked_same_columns s.columns g.vertices >>= λ _.
    Ok (same_graph (typed.JoinVertices g.number t.number s.exprs) g)

-- `outerjoin`: the default row is one of the table
abbrev pub outer_joined_graph : OperandTypes → OperandTypes → List Const → List ColumnExpr
    → Result TypedBody StmtStop
outer_joined_graph g t default sets = constant_row t.vertices default >>= λ row.
    typed_sets (outer_join_scope g.vertices t.vertices) sets >>= λ s.
    Ok (graph_stmt (typed.OuterJoin g.number t.number row s.exprs) s.columns g.edges)

-- ---- messages

abbrev pub aggregated_table : OperandTypes → List SendClause → List ColumnMerge
    → Result TypedBody StmtStop
aggregated_table g sends merges = typed_sends (triplet_scope g.vertices g.edges) 0 sends >>= λ s.
    message_columns merges s.kinds >>= λ message.
    Ok (table_stmt (typed.Aggregate g.number s.sends (merge_kinds merges) s.next) message)

-- `pregel`: the sends are written after the program, so that their nodes are numbered after its;
-- the vertices keep their columns
abbrev pub iterated_graph : OperandTypes → ℕ → ActiveWord → List ColumnMerge → List Const
    → List ColumnExpr → List SendClause → Result TypedBody StmtStop
iterated_graph g rounds active merges initial program sends =
    typed_sends (triplet_scope g.vertices g.edges) (sum (map node_count (column_values program)))
    sends >>= λ s.
    message_columns merges s.kinds >>= λ message.
    constant_row message initial >>= λ row.
    typed_sets (program_scope g.vertices message) program >>= λ p.
    checked_same_columns p.columns g.vertices >>= λ _.
    Ok (same_graph (typed.Pregel g.number rounds (direction_of_written active) (merge_kinds merges)
    row p.exprs s.sends s.next) g)

-- ---- tables

-- a table with the columns of another
abbrev pub same_table : TypedStmt → OperandTypes → TypedBody
same_table s t = table_stmt s t.vertices

abbrev pub filtered_table : OperandTypes → Written → Result TypedBody StmtStop
filtered_table t condition = typed_condition (vertex_scope t.vertices) 0 condition >>= λ c.
    Ok (same_table (typed.Filter t.number c.expr) t)

abbrev pub mapped_table : OperandTypes → List ColumnExpr → Result TypedBody StmtStop
mapped_table t sets = typed_sets (vertex_scope t.vertices) sets >>= λ s.
    Ok (table_stmt (typed.MapValues t.number s.exprs) s.columns)

abbrev pub subtracted_table : OperandTypes → OperandTypes → TypedBody
subtracted_table t u = same_table (typed.Minus t.number u.number) t

-- `diff`: both tables have the same kinds, and the result the names of the first
abbrev pub compared_table : OperandTypes → OperandTypes → Result TypedBody StmtStop
compared_table t u = checked_same_kinds t.vertices u.vertices >>= λ _.
    Ok (same_table (typed.Diff t.number u.number) t)

abbrev pub joined_table : OperandTypes → OperandTypes → List ColumnExpr → Result TypedBody StmtStop
joined_table t u sets = typed_sets (join_scope t.vertices u.vertices) sets >>= λ s.
    Ok (table_stmt (typed.InnerJoin t.number u.number s.exprs) s.columns)

-- `leftjoin`: the default row is one of the second table
abbrev pub left_joined_table : OperandTypes → OperandTypes → List Const → List ColumnExpr
    → Result TypedBody StmtStop
left_joined_table t u default sets = constant_row u.vertices default >>= λ row.
    typed_sets (outer_join_scope t.vertices u.vertices) sets >>= λ s.
    Ok (table_stmt (typed.LeftJoin t.number u.number row s.exprs) s.columns)
