-- What a statement that passed its checks names and makes.
--
-- To add a statement, add its line in `body-fits`.
use Rattle.std.proofs.Common.{◌≡◌, ℕ, ◌≤◌, Bool, true, false, if◌then◌else◌, Option, Some, None, Result, Ok, Err, IfOk, List, [], ◌∷◌, ◌++◌, length, map, sum, refl, arith}
use Rattle.std.specs.List.{zip}
use Rattle.std.proofs.Math.Nat.{le_trans}
use Rattle.std.proofs.lemmas.List.{length-map}
use Rattle.gx_rows.specs.declared.value.ValueKind.{ValueKind}
use Rattle.gx_rows.specs.Columns.{Column}
use Rattle.gx_rows.specs.Results.{◌>>=◌}
use Rattle.gx_syntax_tree.specs.Bounds.{node_count}
use Rattle.gx_syntax_tree.specs.declared.constant.ColumnConst.{ColumnConst}
use Rattle.gx_syntax_tree.specs.declared.parts.ColumnDecl.{ColumnDecl}
use Rattle.gx_syntax_tree.specs.declared.parts.ColumnExpr.{ColumnExpr}
use Rattle.gx_syntax_tree.specs.declared.parts.ColumnMerge.{ColumnMerge}
use Rattle.gx_syntax_tree.specs.declared.stmt.Stmt.{Stmt}
use Rattle.gx_syntax_tree.specs.declared.stmt.Stmt.TheVariants as stmts
use Rattle.gx_types.specs.Built.{is_built, is_run}
use Rattle.gx_types.specs.SoundStmts.{HasFewColumns, HasWrittenCut}
use Rattle.gx_types.specs.StmtSorts.{named_sorts, sort_made, sort_of_types}
use Rattle.gx_types_exprs.specs.ExprScopes.{ScopeNames, vertex_scope, triplet_scope, edge_scope, join_scope, outer_join_scope, program_scope}
use Rattle.gx_types_clauses.specs.Constants.{const_kind, constant_row}
use Rattle.gx_types_stmts.specs.Makes.{OperandTypes, is_of_sort}
use Rattle.gx_types_clauses.specs.Merging.{first_kinds, given_columns, grouped_columns, have_merges, merged_columns, message_columns, take_each}
use Rattle.gx_types_clauses.specs.NamedParts.{UsedName, named_parts}
use Rattle.gx_types_clauses.specs.SameColumns.{checked_same_columns, checked_same_kinds, kinds_in}
use Rattle.gx_types_clauses.specs.Sending.{typed_sends}
use Rattle.gx_types_stmts.specs.StmtTyping.{typed_body}
use Rattle.gx_types_clauses.specs.ValueTyping.{column_values, typed_condition, typed_sets, typed_test, typed_values}
use Rattle.gx_types_stmts.specs.declared.made.Made.{Made}
use Rattle.gx_types_clauses.specs.declared.sort.Sort.{Sort}
use Rattle.gx_types_clauses.specs.declared.sort.Sort.TheVariants.{Table, Edges, Graph}
use Rattle.gx_types_stmts.specs.declared.typed_stmt.TypedStmt.{TypedStmt}

-- ---- steps that may stop

-- what holds of a step, and then of what comes after it
pub after-fact : {A B E : Type 0} (r : Result A E) (Q : A → Type 0) (P : B → Type 0) (next : A → Result B E) → IfOk r Q → ((x : A) → Q x → IfOk (next x) P) → IfOk (r >>= next) P
after-fact (Ok x) Q P next q h = h x q
after-fact (Err e) Q P next q h = tt

-- what holds of what comes after a step
pub after-step : {A B E : Type 0} (P : B → Type 0) (r : Result A E) (next : A → Result B E) → ((x : A) → IfOk (next x) P) → IfOk (r >>= next) P
after-step P (Ok x) next h = h x
after-step P (Err e) next h = tt

of-sort : (sort : Sort) (vs es : Option (List Column)) → is_of_sort sort (record { vertices = vs; edges = es }) ≡ true → sort_of_types vs es ≡ Some sort
of-sort Table (Some vs) None h = refl
of-sort Table (Some vs) (Some es) h = cc
of-sort Table None es h = cc
of-sort Edges (Some vs) es h = cc
of-sort Edges None None h = cc
of-sort Edges None (Some es) h = refl
of-sort Graph (Some vs) None h = cc
of-sort Graph (Some vs) (Some es) h = refl
of-sort Graph None es h = cc

pub made-of_sort : (sort : Sort) (m : Made) → is_of_sort sort m ≡ true → sort_of_types m.vertices m.edges ≡ Some sort
made-of_sort sort m h = of-sort sort m.vertices m.edges h

-- ---- at most 16 columns

pub if-fact : {A E : Type 0} (P : A → Type 0) (b : Bool) (r : Result A E) (e : E) → IfOk r P → IfOk (if b then r else Err e) P
if-fact P true r e h = h
if-fact P false r e h = tt

zip-few : {A B : Type 0} (xs : List A) (ys : List B) → length (zip xs ys) ≤ length xs
zip-few [] ys = omega arith
zip-few (x ∷ xs) [] = omega arith
zip-few (x ∷ xs) (y ∷ ys) = let rest = zip-few xs ys in omega (arith, rest)

one-few : 1 ≤ 16
one-few = omega arith

-- as many columns as names
mapped-few : {A B C : Type 0} (f : A → B) (g : A → C) (xs : List A) → length (map f xs) ≤ 16 → length (map g xs) ≤ 16
mapped-few f g xs h = let names = length-map xs f in let columns = length-map xs g in omega (arith, names, columns, h)

-- no more columns than merges
within-few : {A B C : Type 0} (f : A → B) (xs : List A) (ys : List C) → length ys ≤ length xs → length (map f xs) ≤ 16 → length ys ≤ 16
within-few f xs ys less h = let names = length-map xs f in omega (arith, names, less, h)

sets-few : (s : ScopeNames) (sets : List ColumnExpr) → IfOk (typed_sets s sets) (λ x. length x.columns ≤ length (map (λ (c : ColumnExpr). c.name) sets))
sets-few s sets = after-step _ (typed_values s 0 (column_values sets)) _ (λ xs. zip-few (map (λ (c : ColumnExpr). c.name) sets) xs.kinds)

given-few : (ms : List ColumnMerge) (ks : List ValueKind) → length (given_columns ms ks) ≤ length ms
given-few ms ks =
    let given : length (given_columns ms ks) ≡ length (zip ms ks) = length-map (zip ms ks) _ in
    let less = zip-few ms ks in
    omega (arith, given, less)

merged-few : (ms : List ColumnMerge) (ks : List ValueKind) → IfOk (merged_columns ms ks) (λ cs. length cs ≤ length ms)
merged-few ms ks = if-fact (λ cs. length cs ≤ length ms) (take_each ms ks) (Ok (given_columns ms ks)) _ (given-few ms ks)

grouped-few : (ms : List ColumnMerge) (es : List Column) → IfOk (grouped_columns ms es) (λ cs. length cs ≤ length ms)
grouped-few ms es = if-fact (λ cs. length cs ≤ length ms) _ (merged_columns ms (kinds_in es)) _ (merged-few ms (kinds_in es))

message-few : (ms : List ColumnMerge) (sent : List (List ValueKind)) → IfOk (message_columns ms sent) (λ cs. length cs ≤ length ms)
message-few ms sent =
    if-fact (λ cs. length cs ≤ length ms) (have_merges (length ms) sent) _ _
    (if-fact (λ cs. length cs ≤ length ms) _ (merged_columns ms (first_kinds sent)) _ (merged-few ms (first_kinds sent)))

-- what a name stands for has few columns
abbrev pub IsFewOperand : OperandTypes → Type 0
IsFewOperand a = (length a.vertices ≤ 16) × (length a.edges ≤ 16)

-- ---- statements

-- the number of what a name stands for with its sort, if one is used
abbrev pub sort_if_used : Option UsedName → OperandTypes → List (Sort × ℕ)
sort_if_used None a = []
sort_if_used (Some u) a = (u.sort, a.number) ∷ []

-- it names what its names stand for, makes a thing of its sort with few columns, and is run if it is as it is written
pub record FitsWritten (a b : OperandTypes) (s : Stmt) (st : TypedStmt) (made : Made) : Type 0 where
  pub sorts : named_sorts st ≡ sort_if_used (named_parts s).first a ++ sort_if_used (named_parts s).second b
  pub makes : sort_made st ≡ sort_of_types made.vertices made.edges
  pub run : is_run st ≡ is_built s
  pub cut : HasWrittenCut st
  pub few : IsFewOperand a → IsFewOperand b → length (named_parts s).columns ≤ 16 → HasFewColumns made

pub body-fits : (a b : OperandTypes) (s : Stmt) → IfOk (typed_body a b s) (λ t. FitsWritten a b s t.stmt t.made)
body-fits a b (stmts.Vertices name file cs) = record { sorts = refl; makes = refl; run = refl; cut = tt; few = λ p q n. (mapped-few (λ (c : ColumnDecl). c.name) (λ (c : ColumnDecl). (c.name, c.kind)) cs n, tt) }
body-fits a b (stmts.Edges name file cs) = record { sorts = refl; makes = refl; run = refl; cut = tt; few = λ p q n. (tt, mapped-few (λ (c : ColumnDecl). c.name) (λ (c : ColumnDecl). (c.name, c.kind)) cs n) }
body-fits a b (stmts.EdgeList name file o) = record { sorts = refl; makes = refl; run = refl; cut = tt; few = λ p q n. (tt, one-few) }
body-fits a b (stmts.Graph name vs es default) =
    after-step _ (constant_row a.vertices default) _ (λ row. record { sorts = refl; makes = refl; run = refl; cut = tt; few = λ p q n. (p.0, q.1) })
body-fits a b (stmts.FromEdges name es row) = record { sorts = refl; makes = refl; run = refl; cut = tt; few = λ p q n. (mapped-few (λ (c : ColumnConst). c.name) (λ (c : ColumnConst). (c.name, const_kind c.value)) row n, p.1) }
body-fits a b (stmts.Reverse name g) = record { sorts = refl; makes = refl; run = refl; cut = tt; few = λ p q n. p }
body-fits a b (stmts.Mask name g by) = record { sorts = refl; makes = refl; run = refl; cut = tt; few = λ p q n. p }
body-fits a b (stmts.Subgraph name g vs es) =
    after-step _ (typed_test (vertex_scope a.vertices) 0 vs) _ (λ v. after-step _ (typed_test (triplet_scope a.vertices a.edges) v.next es) _
    (λ e. record { sorts = refl; makes = refl; run = refl; cut = tt; few = λ p q n. p }))
body-fits a b (stmts.GroupEdges name g ms) =
    after-fact (grouped_columns ms a.edges) (λ cs. length cs ≤ length ms) _ _ (grouped-few ms a.edges)
    (λ edges h. record { sorts = refl; makes = refl; run = refl; cut = tt; few = λ p q n. (p.0, within-few (λ (m : ColumnMerge). m.name) ms edges h n) })
body-fits a b (stmts.Partition name g cut) = record { sorts = refl; makes = refl; run = refl; cut = (cut, refl); few = λ p q n. p }
body-fits a b (stmts.MapVertices name g ss) =
    after-fact (typed_sets (vertex_scope a.vertices) ss) (λ x. length x.columns ≤ length (map (λ (c : ColumnExpr). c.name) ss)) _ _ (sets-few (vertex_scope a.vertices) ss)
    (λ s h. record { sorts = refl; makes = refl; run = refl; cut = tt; few = λ p q n. (le_trans h n, p.1) })
body-fits a b (stmts.MapEdges name g ss) =
    after-fact (typed_sets (edge_scope a.edges) ss) (λ x. length x.columns ≤ length (map (λ (c : ColumnExpr). c.name) ss)) _ _ (sets-few (edge_scope a.edges) ss)
    (λ s h. record { sorts = refl; makes = refl; run = refl; cut = tt; few = λ p q n. (p.0, le_trans h n) })
body-fits a b (stmts.MapTriplets name g ss) =
    after-fact (typed_sets (triplet_scope a.vertices a.edges) ss) (λ x. length x.columns ≤ length (map (λ (c : ColumnExpr). c.name) ss)) _ _ (sets-few (triplet_scope a.vertices a.edges) ss)
    (λ s h. record { sorts = refl; makes = refl; run = refl; cut = tt; few = λ p q n. (p.0, le_trans h n) })
body-fits a b (stmts.JoinVertices name g t ss) =
    after-step _ (typed_sets (join_scope a.vertices b.vertices) ss) _ (λ s. after-step _ (checked_same_columns s.columns a.vertices) _
    (λ same. record { sorts = refl; makes = refl; run = refl; cut = tt; few = λ p q n. p }))
body-fits a b (stmts.OuterJoin name g t default ss) =
    after-step _ (constant_row b.vertices default) _ (λ row. after-fact (typed_sets (outer_join_scope a.vertices b.vertices) ss) (λ x. length x.columns ≤ length (map (λ (c : ColumnExpr). c.name) ss)) _ _ (sets-few (outer_join_scope a.vertices b.vertices) ss)
    (λ s h. record { sorts = refl; makes = refl; run = refl; cut = tt; few = λ p q n. (le_trans h n, p.1) }))
body-fits a b (stmts.Aggregate name g cs ms) =
    after-step _ (typed_sends (triplet_scope a.vertices a.edges) 0 cs) _ (λ s. after-fact (message_columns ms s.kinds) (λ cs. length cs ≤ length ms) _ _ (message-few ms s.kinds)
    (λ message h. record { sorts = refl; makes = refl; run = refl; cut = tt; few = λ p q n. (within-few (λ (m : ColumnMerge). m.name) ms message h n, tt) }))
body-fits a b (stmts.InDegrees name g) = record { sorts = refl; makes = refl; run = refl; cut = tt; few = λ p q n. (one-few, tt) }
body-fits a b (stmts.OutDegrees name g) = record { sorts = refl; makes = refl; run = refl; cut = tt; few = λ p q n. (one-few, tt) }
body-fits a b (stmts.Degrees name g) = record { sorts = refl; makes = refl; run = refl; cut = tt; few = λ p q n. (one-few, tt) }
body-fits a b (stmts.Neighbours name g d) = record { sorts = refl; makes = refl; run = refl; cut = tt; few = λ p q n. (one-few, tt) }
body-fits a b (stmts.Pregel name g rounds w ms initial program cs) =
    after-step _ (typed_sends (triplet_scope a.vertices a.edges) (sum (map node_count (column_values program))) cs) _ (λ s. after-step _ (message_columns ms s.kinds) _
    (λ message. after-step _ (constant_row message initial) _ (λ row. after-step _ (typed_sets (program_scope a.vertices message) program) _
    (λ p. after-step _ (checked_same_columns p.columns a.vertices) _ (λ same. record { sorts = refl; makes = refl; run = refl; cut = tt; few = λ p q n. p })))))
body-fits a b (stmts.Filter name t x) =
    after-step _ (typed_condition (vertex_scope a.vertices) 0 x) _ (λ c. record { sorts = refl; makes = refl; run = refl; cut = tt; few = λ p q n. (p.0, tt) })
body-fits a b (stmts.MapValues name t ss) =
    after-fact (typed_sets (vertex_scope a.vertices) ss) (λ x. length x.columns ≤ length (map (λ (c : ColumnExpr). c.name) ss)) _ _ (sets-few (vertex_scope a.vertices) ss)
    (λ s h. record { sorts = refl; makes = refl; run = refl; cut = tt; few = λ p q n. (le_trans h n, tt) })
body-fits a b (stmts.Minus name t u) = record { sorts = refl; makes = refl; run = refl; cut = tt; few = λ p q n. (p.0, tt) }
body-fits a b (stmts.Diff name t u) =
    after-step _ (checked_same_kinds a.vertices b.vertices) _ (λ same. record { sorts = refl; makes = refl; run = refl; cut = tt; few = λ p q n. (p.0, tt) })
body-fits a b (stmts.InnerJoin name t u ss) =
    after-fact (typed_sets (join_scope a.vertices b.vertices) ss) (λ x. length x.columns ≤ length (map (λ (c : ColumnExpr). c.name) ss)) _ _ (sets-few (join_scope a.vertices b.vertices) ss)
    (λ s h. record { sorts = refl; makes = refl; run = refl; cut = tt; few = λ p q n. (le_trans h n, tt) })
body-fits a b (stmts.LeftJoin name t u default ss) =
    after-step _ (constant_row b.vertices default) _ (λ row. after-fact (typed_sets (outer_join_scope a.vertices b.vertices) ss) (λ x. length x.columns ≤ length (map (λ (c : ColumnExpr). c.name) ss)) _ _ (sets-few (outer_join_scope a.vertices b.vertices) ss)
    (λ s h. record { sorts = refl; makes = refl; run = refl; cut = tt; few = λ p q n. (le_trans h n, tt) }))
body-fits a b (stmts.PrintVertices g) = record { sorts = refl; makes = refl; run = refl; cut = tt; few = λ p q n. (tt, tt) }
body-fits a b (stmts.PrintEdges g) = record { sorts = refl; makes = refl; run = refl; cut = tt; few = λ p q n. (tt, tt) }
body-fits a b (stmts.PrintTriplets g) = record { sorts = refl; makes = refl; run = refl; cut = tt; few = λ p q n. (tt, tt) }
body-fits a b (stmts.PrintTable t) = record { sorts = refl; makes = refl; run = refl; cut = tt; few = λ p q n. (tt, tt) }
body-fits a b (stmts.CountVertices g) = record { sorts = refl; makes = refl; run = refl; cut = tt; few = λ p q n. (tt, tt) }
body-fits a b (stmts.CountEdges g) = record { sorts = refl; makes = refl; run = refl; cut = tt; few = λ p q n. (tt, tt) }
body-fits a b (stmts.CountTable t) = record { sorts = refl; makes = refl; run = refl; cut = tt; few = λ p q n. (tt, tt) }
