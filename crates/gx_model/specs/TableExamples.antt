-- What the statements on tables make of two tables of ages, and their faults.
--
--     s has 1,25; 2,30; 3,35 and u has 2,30; 3,36; 4,0
use Rattle.std.specs.Prelude.{◌≡◌, ℕ, pos, true, false, List, [], ◌∷◌, None, Some, Ok, slice_get}
use Rattle.std.proofs.Common.{refl, ◌∙◌, ap₂}
use Rattle.gx_rows.specs.declared.cut.Cut.TheVariants.{OneD}
use Rattle.gx_rows.specs.declared.cause.Cause.TheVariants as cause
use Rattle.gx_rows.specs.declared.row_key.RowKey.TheVariants as row_key
use Rattle.gx_rows.specs.declared.value.Value.{Value}
use Rattle.gx_rows.specs.declared.value.Value.TheVariants.{Bool, Int}
use Rattle.gx_expr.specs.Evaluation.{ScopeValues, eval_binary, eval_result, eval_result-roll, value_or_zero}
use Rattle.gx_expr.specs.declared.expr.Expr.{Expr, roll-Expr}
use Rattle.gx_expr.specs.declared.expr.Expr.TheOpen as layer
use Rattle.gx_expr.specs.declared.operators.BinaryOp.TheVariants as binary
use Rattle.gx_expr.specs.declared.side.Side.{Side}
use Rattle.gx_expr.specs.declared.side.Side.TheVariants as side
use Rattle.gx_types_stmts.specs.declared.typed_stmt.TypedStmt.TheVariants as stmts
use Rattle.gx_model.specs.Graphs.{Graph, Placement, Vertex, table_value, unplaced}
use Rattle.gx_model.specs.StmtFaults.{fault_of_stmt}
use Rattle.gx_model.specs.Values.{filtered_vertices, inner_joined_vertices, left_joined_vertices, value_of_stmt, vertices_diff, vertices_in_both, vertices_minus}

aged : ℕ → ℕ → Vertex
aged id age = (record { 0 = pos id }, Int (pos age) ∷ [])

table_s : List Vertex
table_s = aged 1 25 ∷ aged 2 30 ∷ aged 3 35 ∷ []

table_u : List Vertex
table_u = aged 2 30 ∷ aged 3 36 ∷ aged 4 0 ∷ []

-- ---- without expressions

-- u lacks vertex 1
vertices_minus-example : vertices_minus table_s table_u ≡ aged 1 25 ∷ []
unfolding aged table_s table_u
vertices_minus-example = refl

-- of those in both, vertex 3 has another row in u
vertices_diff-example : vertices_diff table_s table_u ≡ aged 3 36 ∷ []
unfolding aged table_s table_u
vertices_diff-example = refl

vertices_in_both-example : vertices_in_both table_s table_u ≡ aged 2 30 ∷ aged 3 35 ∷ []
unfolding aged table_s table_u
vertices_in_both-example = refl

-- ---- with expressions

-- the column `age` of a side
age_of_side : Side → Expr
age_of_side which = roll-Expr (layer.Column 1 which 0)

int_at : ℕ → ℕ → Expr
int_at node n = roll-Expr (layer.Const node (Int (pos n)))

age_in : Side → ScopeValues → Value
age_in which s = value_or_zero (slice_get (s.columns which) 0)

age_of_side-result : (which : Side) (s : ScopeValues) → eval_result s (age_of_side which) ≡ Ok (age_in which s)
unfolding age_of_side age_in
age_of_side-result which s = eval_result-roll s (layer.Column 1 which 0)

-- v.age > 28
over_28 : Expr
over_28 = roll-Expr (layer.Binary 0 binary.Gt (age_of_side side.Vertex) (int_at 2 28))

over_28-result : (s : ScopeValues) → eval_result s over_28 ≡ eval_binary 0 binary.Gt (Ok (age_in side.Vertex s)) (Ok (Int (pos 28)))
unfolding over_28 int_at
over_28-result s =
    eval_result-roll s (layer.Binary 0 binary.Gt (age_of_side side.Vertex) (int_at 2 28))
    ∙ ap₂ (eval_binary 0 binary.Gt) (age_of_side-result side.Vertex s) (eval_result-roll s (layer.Const 2 (Int (pos 28))))

-- 1 / o.age
share_of_other : Expr
share_of_other = roll-Expr (layer.Binary 0 binary.Div (int_at 2 1) (age_of_side side.Other))

share_of_other-result : (s : ScopeValues) → eval_result s share_of_other ≡ eval_binary 0 binary.Div (Ok (Int (pos 1))) (Ok (age_in side.Other s))
unfolding share_of_other int_at
share_of_other-result s =
    eval_result-roll s (layer.Binary 0 binary.Div (int_at 2 1) (age_of_side side.Other))
    ∙ ap₂ (eval_binary 0 binary.Div) (eval_result-roll s (layer.Const 2 (Int (pos 1)))) (age_of_side-result side.Other s)

-- whether the other table has the row
is_matched : Expr
is_matched = roll-Expr (layer.Matched 2)

is_matched-result : (s : ScopeValues) → eval_result s is_matched ≡ Ok (Bool s.matched)
unfolding is_matched
is_matched-result s = eval_result-roll s (layer.Matched 2)

filtered_vertices-example : filtered_vertices over_28 table_s ≡ aged 2 30 ∷ aged 3 35 ∷ []
unfolding aged table_s age_in
filtered_vertices-example = rw (over_28-result, over_28-result, over_28-result) refl

-- the other row is that of u
inner_joined_vertices-example : inner_joined_vertices (age_of_side side.Other ∷ []) table_s table_u ≡ aged 2 30 ∷ aged 3 36 ∷ []
unfolding aged table_s table_u age_in
inner_joined_vertices-example = rw (age_of_side-result, age_of_side-result) refl

-- vertex 1 has the default beside it
left_joined_vertices-example : left_joined_vertices (age_of_side side.Other ∷ is_matched ∷ []) (Int (pos 7) ∷ []) table_s table_u
    ≡ (record { 0 = pos 1 }, Int (pos 7) ∷ Bool false ∷ [])
    ∷ (record { 0 = pos 2 }, Int (pos 30) ∷ Bool true ∷ [])
    ∷ (record { 0 = pos 3 }, Int (pos 36) ∷ Bool true ∷ [])
    ∷ []
unfolding aged table_s table_u age_in
left_joined_vertices-example =
    rw (age_of_side-result, is_matched-result, age_of_side-result, is_matched-result, age_of_side-result, is_matched-result) refl

-- ---- statements

two_tables : List (Graph (Unit {0}))
two_tables = table_value table_s ∷ table_value table_u ∷ []

-- vertex 4 of u has age 0, and is not in s
joins-faults : (fault_of_stmt two_tables 3 (stmts.InnerJoin 1 2 (share_of_other ∷ [])) ≡ None)
    × (fault_of_stmt two_tables 3 (stmts.LeftJoin 1 2 (Int (pos 0) ∷ []) (share_of_other ∷ []))
    ≡ Some (record { statement = 3; key = row_key.Vertex (record { 0 = pos 1 }); expr = 0; cause = cause.DivideByZero }))
unfolding aged table_s table_u two_tables age_in
joins-faults =
    (rw (share_of_other-result, share_of_other-result) refl, rw (share_of_other-result, share_of_other-result, share_of_other-result) refl)

-- a loaded edge has the place of its ordinal, and an edge that is placed anew has place 5
places : Placement ℕ
places = record { of_loaded = λ n e. n; of_cut = λ cut e. 5 }

-- `partition` keeps the vertices, and places each edge anew; over plain lists it changes nothing
partition-example : (value_of_stmt places [] (record { vertices = table_s; edges = (0, (record { 0 = pos 1 }, record { 0 = pos 2 }, [])) ∷ [] } ∷ []) 2 (stmts.Partition 1 OneD)
    ≡ record { vertices = table_s; edges = (5, (record { 0 = pos 1 }, record { 0 = pos 2 }, [])) ∷ [] })
    × (value_of_stmt unplaced [] (record { vertices = table_s; edges = (tt, (record { 0 = pos 1 }, record { 0 = pos 2 }, [])) ∷ [] } ∷ []) 2 (stmts.Partition 1 OneD)
    ≡ record { vertices = table_s; edges = (tt, (record { 0 = pos 1 }, record { 0 = pos 2 }, [])) ∷ [] })
unfolding places
partition-example = (refl, refl)
