-- A statement uses what it names.
--
-- To add a statement, add its line in `typed_body-names`.
use Rattle.std.proofs.Common.{◌≡◌, ◌++◌, Result, Ok, Err, IfOk, map, refl}
use Rattle.std.specs.Prelude.{sum}
use Rattle.gx_syntax_tree.specs.Bounds.{node_count}
use Rattle.gx_syntax_tree.specs.declared.stmt.Stmt.{Stmt}
use Rattle.gx_syntax_tree.specs.declared.stmt.Stmt.TheVariants as stmts
use Rattle.gx_types_exprs.specs.ExprScopes.{vertex_scope, triplet_scope, edge_scope, join_scope, outer_join_scope, program_scope}
use Rattle.gx_types_clauses.specs.Constants.{constant_row}
use Rattle.gx_types_stmts.specs.Makes.{OperandTypes}
use Rattle.gx_types_clauses.specs.Merging.{grouped_columns, message_columns}
use Rattle.gx_types_clauses.specs.NamedParts.{named_parts}
use Rattle.gx_types_clauses.specs.SameColumns.{checked_same_columns, checked_same_kinds}
use Rattle.gx_types_clauses.specs.Sending.{typed_sends}
use Rattle.gx_types_stmts.specs.StmtNumbers.{named_numbers, number_if_used}
use Rattle.gx_types_stmts.specs.StmtTyping.{typed_body}
use Rattle.gx_types_clauses.specs.ValueTyping.{column_values, typed_condition, typed_sets, typed_test}
use Rattle.gx_types_stmts.specs.declared.typed_body.TypedBody.{TypedBody}

-- a step that may stop
step : {A E G : Type 0} (r : Result A E) → ((x : A) → r ≡ Ok x → G) → ((e : E) → r ≡ Err e → G) → G
step (Ok x) goes stops = goes x refl
step (Err e) goes stops = stops e refl

abbrev pub NamesOperands : OperandTypes → OperandTypes → Stmt → TypedBody → Type 0
NamesOperands a b s t = named_numbers t.stmt ≡ number_if_used (named_parts s).first a ++ number_if_used (named_parts s).second b

pub typed_body-names : (a b : OperandTypes) (s : Stmt) → IfOk (typed_body a b s) (NamesOperands a b s)
typed_body-names a b (stmts.Vertices name file cs) = refl
typed_body-names a b (stmts.Edges name file cs) = refl
typed_body-names a b (stmts.EdgeList name file o) = refl
typed_body-names a b (stmts.Graph name vs es default) =
    step (constant_row a.vertices default) (λ row e1. rw e1 refl) (λ stop e1. rw e1 tt)
typed_body-names a b (stmts.FromEdges name es row) = refl
typed_body-names a b (stmts.Reverse name g) = refl
typed_body-names a b (stmts.Mask name g by) = refl
typed_body-names a b (stmts.Subgraph name g vs es) =
    step (typed_test (vertex_scope a.vertices) 0 vs) (λ v e1. step (typed_test (triplet_scope a.vertices a.edges) v.next es) (λ e e2. rw (e1, e2) refl) (λ stop e2. rw (e1, e2) tt)) (λ stop e1. rw e1 tt)
typed_body-names a b (stmts.GroupEdges name g ms) =
    step (grouped_columns ms a.edges) (λ edges e1. rw e1 refl) (λ stop e1. rw e1 tt)
typed_body-names a b (stmts.Partition name g cut) = refl
typed_body-names a b (stmts.MapVertices name g ss) =
    step (typed_sets (vertex_scope a.vertices) ss) (λ s e1. rw e1 refl) (λ stop e1. rw e1 tt)
typed_body-names a b (stmts.MapEdges name g ss) =
    step (typed_sets (edge_scope a.edges) ss) (λ s e1. rw e1 refl) (λ stop e1. rw e1 tt)
typed_body-names a b (stmts.MapTriplets name g ss) =
    step (typed_sets (triplet_scope a.vertices a.edges) ss) (λ s e1. rw e1 refl) (λ stop e1. rw e1 tt)
typed_body-names a b (stmts.JoinVertices name g t ss) =
    step (typed_sets (join_scope a.vertices b.vertices) ss) (λ s e1. step (checked_same_columns s.columns a.vertices) (λ same e2. rw (e1, e2) refl) (λ stop e2. rw (e1, e2) tt)) (λ stop e1. rw e1 tt)
typed_body-names a b (stmts.OuterJoin name g t default ss) =
    step (constant_row b.vertices default) (λ row e1. step (typed_sets (outer_join_scope a.vertices b.vertices) ss) (λ s e2. rw (e1, e2) refl) (λ stop e2. rw (e1, e2) tt)) (λ stop e1. rw e1 tt)
typed_body-names a b (stmts.Aggregate name g cs ms) =
    step (typed_sends (triplet_scope a.vertices a.edges) 0 cs) (λ s e1. step (message_columns ms s.kinds) (λ message e2. rw (e1, e2) refl) (λ stop e2. rw (e1, e2) tt)) (λ stop e1. rw e1 tt)
typed_body-names a b (stmts.InDegrees name g) = refl
typed_body-names a b (stmts.OutDegrees name g) = refl
typed_body-names a b (stmts.Degrees name g) = refl
typed_body-names a b (stmts.Neighbours name g d) = refl
typed_body-names a b (stmts.Pregel name g rounds w ms initial program cs) =
    step (typed_sends (triplet_scope a.vertices a.edges) (sum (map node_count (column_values program))) cs) (λ s e1. step (message_columns ms s.kinds) (λ message e2. step (constant_row message initial) (λ row e3. step (typed_sets (program_scope a.vertices message) program) (λ p e4. step (checked_same_columns p.columns a.vertices) (λ same e5. rw (e1, e2, e3, e4, e5) refl) (λ stop e5. rw (e1, e2, e3, e4, e5) tt)) (λ stop e4. rw (e1, e2, e3, e4) tt)) (λ stop e3. rw (e1, e2, e3) tt)) (λ stop e2. rw (e1, e2) tt)) (λ stop e1. rw e1 tt)
typed_body-names a b (stmts.Filter name t x) =
    step (typed_condition (vertex_scope a.vertices) 0 x) (λ c e1. rw e1 refl) (λ stop e1. rw e1 tt)
typed_body-names a b (stmts.MapValues name t ss) =
    step (typed_sets (vertex_scope a.vertices) ss) (λ s e1. rw e1 refl) (λ stop e1. rw e1 tt)
typed_body-names a b (stmts.Minus name t u) = refl
typed_body-names a b (stmts.Diff name t u) =
    step (checked_same_kinds a.vertices b.vertices) (λ same e1. rw e1 refl) (λ stop e1. rw e1 tt)
typed_body-names a b (stmts.InnerJoin name t u ss) =
    step (typed_sets (join_scope a.vertices b.vertices) ss) (λ s e1. rw e1 refl) (λ stop e1. rw e1 tt)
typed_body-names a b (stmts.LeftJoin name t u default ss) =
    step (constant_row b.vertices default) (λ row e1. step (typed_sets (outer_join_scope a.vertices b.vertices) ss) (λ s e2. rw (e1, e2) refl) (λ stop e2. rw (e1, e2) tt)) (λ stop e1. rw e1 tt)
typed_body-names a b (stmts.PrintVertices g) = refl
typed_body-names a b (stmts.PrintEdges g) = refl
typed_body-names a b (stmts.PrintTriplets g) = refl
typed_body-names a b (stmts.PrintTable t) = refl
typed_body-names a b (stmts.CountVertices g) = refl
typed_body-names a b (stmts.CountEdges g) = refl
typed_body-names a b (stmts.CountTable t) = refl
