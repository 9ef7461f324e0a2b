-- Typing of a statement: its names, and then what comes after them.
--
-- To add a statement, add its line in `typed_body`, with its rule in StmtRules.antt, and its line
-- in `named_parts` of gx_types_clauses.
use Rattle.std.specs.Prelude.{◌≡◌, ℕ, nat_eq, if◌then◌else◌, Result, Ok, List, [], ◌∷◌, ◌++◌, codes}
use Rattle.std.specs.Prelude.{refl}
use Rattle.gx_rows.specs.Results.{◌>>=◌}
use Rattle.gx_syntax_tree.specs.declared.stmt.Stmt.{Stmt}
use Rattle.gx_syntax_tree.specs.declared.stmt.Stmt.TheVariants as stmts
use Rattle.gx_syntax_tree.specs.declared.words.NeighbourWord.TheVariants as neighbour_words
use Rattle.gx_types_clauses.specs.ColumnLists.{checked_lists, rounds_of}
use Rattle.gx_types_stmts.specs.KnownNames.{Context, context_after, free_name, used_operand}
use Rattle.gx_types_stmts.specs.KnownNames.{example_context}
use Rattle.gx_types_stmts.specs.Makes.{OperandTypes, action_stmt, table_made, example_table}
use Rattle.gx_types_clauses.specs.NamedParts.{named_parts}
use Rattle.gx_types_stmts.specs.ShortForms.{degree_table, neighbour_table}
use Rattle.gx_types_stmts.specs.StmtRules.{loaded_vertices, loaded_edges, loaded_edge_list}
use Rattle.gx_types_stmts.specs.StmtRules.{built_graph, graph_of_edges, reversed_graph}
use Rattle.gx_types_stmts.specs.StmtRules.{masked_graph}
use Rattle.gx_types_stmts.specs.StmtRules.{tested_graph, grouped_graph, partitioned_graph}
use Rattle.gx_types_stmts.specs.StmtRules.{mapped_vertices_stmt, mapped_edges_stmt}
use Rattle.gx_types_stmts.specs.StmtRules.{mapped_triplets_stmt}
use Rattle.gx_types_stmts.specs.StmtRules.{joined_vertices, outer_joined_graph, aggregated_table}
use Rattle.gx_types_stmts.specs.StmtRules.{iterated_graph}
use Rattle.gx_types_stmts.specs.StmtRules.{filtered_table, mapped_table, subtracted_table}
use Rattle.gx_types_stmts.specs.StmtRules.{compared_table}
use Rattle.gx_types_stmts.specs.StmtRules.{joined_table, left_joined_table}
use Rattle.gx_types_clauses.specs.StmtStops.{stmt_refusal}
use Rattle.gx_types_stmts.specs.declared.checked_stmt.CheckedStmt.{CheckedStmt}
use Rattle.gx_types_exprs.specs.declared.type_kind.TypeKind.TheVariants as type_kind
use Rattle.gx_types_stmts.specs.declared.typed_body.TypedBody.{TypedBody}
use Rattle.gx_types_stmts.specs.declared.made.Made.{Made}
use Rattle.gx_types_clauses.specs.declared.stmt_stop.StmtStop.{StmtStop}
use Rattle.gx_types_stmts.specs.declared.typed_stmt.TypedStmt.TheVariants as typed

-- checks 4 to 8, by what the first and the second used name stand for
abbrev pub typed_body : OperandTypes → OperandTypes → Stmt → Result TypedBody StmtStop
typed_body a b (stmts.Vertices name file cs) = Ok (loaded_vertices file cs)
typed_body a b (stmts.Edges name file cs) = Ok (loaded_edges file cs)
typed_body a b (stmts.EdgeList name file o) = Ok (loaded_edge_list file o)
typed_body a b (stmts.Graph name vs es default) = built_graph a b default
typed_body a b (stmts.FromEdges name es row) = Ok (graph_of_edges a row)
typed_body a b (stmts.Reverse name g) = Ok (reversed_graph a)
typed_body a b (stmts.Mask name g by) = Ok (masked_graph a b)
typed_body a b (stmts.Subgraph name g vs es) = tested_graph a vs es
typed_body a b (stmts.GroupEdges name g ms) = grouped_graph a ms
typed_body a b (stmts.Partition name g cut) = Ok (partitioned_graph a cut)
typed_body a b (stmts.MapVertices name g ss) = mapped_vertices_stmt a ss
typed_body a b (stmts.MapEdges name g ss) = mapped_edges_stmt a ss
typed_body a b (stmts.MapTriplets name g ss) = mapped_triplets_stmt a ss
typed_body a b (stmts.JoinVertices name g t ss) = joined_vertices a b ss
typed_body a b (stmts.OuterJoin name g t default ss) = outer_joined_graph a b default ss
typed_body a b (stmts.Aggregate name g cs ms) = aggregated_table a cs ms
typed_body a b (stmts.InDegrees name g) = Ok (degree_table a neighbour_words.In)
typed_body a b (stmts.OutDegrees name g) = Ok (degree_table a neighbour_words.Out)
typed_body a b (stmts.Degrees name g) = Ok (degree_table a neighbour_words.Either)
typed_body a b (stmts.Neighbours name g d) = Ok (neighbour_table a d)
typed_body a b (stmts.Pregel name g rounds w ms initial program cs) =
    iterated_graph a (rounds_of rounds) w ms initial program cs
typed_body a b (stmts.Filter name t x) = filtered_table a x
typed_body a b (stmts.MapValues name t ss) = mapped_table a ss
typed_body a b (stmts.Minus name t u) = Ok (subtracted_table a b)
typed_body a b (stmts.Diff name t u) = compared_table a b
typed_body a b (stmts.InnerJoin name t u ss) = joined_table a b ss
typed_body a b (stmts.LeftJoin name t u default ss) = left_joined_table a b default ss
typed_body a b (stmts.PrintVertices g) = Ok (action_stmt (typed.PrintVertices a.number))
typed_body a b (stmts.PrintEdges g) = Ok (action_stmt (typed.PrintEdges a.number))
typed_body a b (stmts.PrintTriplets g) = Ok (action_stmt (typed.PrintTriplets a.number))
typed_body a b (stmts.PrintTable t) = Ok (action_stmt (typed.PrintTable a.number))
typed_body a b (stmts.CountVertices g) = Ok (action_stmt (typed.CountVertices a.number))
typed_body a b (stmts.CountEdges g) = Ok (action_stmt (typed.CountEdges a.number))
typed_body a b (stmts.CountTable t) = Ok (action_stmt (typed.CountTable a.number))

-- the numbers of the statements that are used
abbrev pub used_number : OperandTypes → List ℕ
used_number a = if nat_eq a.number 0 then [] else a.number ∷ []

-- a statement, over what is known before it: its new name, the names that it uses, its lists of
-- columns with what is counted, and the rest
abbrev pub typed_stmt : Context → Stmt → Result CheckedStmt StmtStop
typed_stmt k s =
    free_name k (named_parts s).new_name >>= λ _.
    used_operand k (named_parts s).first >>= λ a.
    used_operand k (named_parts s).second >>= λ b.
    checked_lists k.rounds (named_parts s) >>= λ _.
    typed_body a b s >>= λ t.
    Ok (record { stmt = t.stmt; made = t.made; uses = used_number a ++ used_number b })

-- what is known after a statement that makes this
abbrev pub context_with : Context → Stmt → Made → Context
context_with k s made =
    context_after k (named_parts s).new_name (rounds_of (named_parts s).rounds) made

-- ---- examples

-- after `vertices s ..`, `minus s = s, u` is refused for its new name, and `minus t = s, u` for `u`
names-before_uses :
    (typed_stmt example_context (stmts.Minus (codes "s") (codes "s") (codes "u"))
    ≡ stmt_refusal type_kind.NameTaken)
    × (typed_stmt example_context (stmts.Minus (codes "t") (codes "s") (codes "u"))
    ≡ stmt_refusal type_kind.NameUnknown)
    × (typed_stmt example_context (stmts.Minus (codes "t") (codes "s") (codes "s"))
    ≡ Ok (record { stmt = typed.Minus 1 1; made = table_made example_table; uses = 1 ∷ 1 ∷ [] }))
unfolding example_context
names-before_uses = (refl, refl, refl)
