-- Two small scripts, and what they print.
--
--     vertices a from "ages.csv" (age: int);
--     edges l from "links.csv" (w: int);
--     graph g = a, l default (0);
--     mapvertices h = g (x: ..);
--     print vertices h; print edges g; count table a;
--
-- where ages.csv has the rows 3,30 and 1,25, and links.csv the edges 2,3,1 and 1,2,4.
use Rattle.std.specs.Prelude.{◌≡◌, ℕ, pos, List, [], ◌∷◌, map, codes, slice_get, Option, None, Some, Ok}
use Rattle.std.proofs.Common.{refl, ◌∙◌, ap₂}
use Rattle.gx_rows.specs.Columns.{Column}
use Rattle.gx_rows.specs.declared.cause.Cause.TheVariants as cause
use Rattle.gx_rows.specs.declared.row_key.RowKey.TheVariants as row_key
use Rattle.gx_rows.specs.declared.value.Value.TheVariants.{Int}
use Rattle.gx_rows.specs.declared.value.ValueKind.TheVariants as kind
use Rattle.gx_expr.specs.Evaluation.{ScopeValues, EvalResult, eval_binary, eval_result, eval_result-roll, value_or_zero}
use Rattle.gx_expr.specs.declared.expr.Expr.{Expr, roll-Expr}
use Rattle.gx_expr.specs.declared.expr.Expr.TheOpen as layer
use Rattle.gx_expr.specs.declared.operators.BinaryOp.TheVariants as binary
use Rattle.gx_expr.specs.declared.side.Side.TheVariants as side
use Rattle.gx_types_stmts.specs.declared.checked_stmt.CheckedStmt.{CheckedStmt}
use Rattle.gx_types_stmts.specs.declared.typed_stmt.TypedStmt.{TypedStmt}
use Rattle.gx_types_stmts.specs.declared.typed_stmt.TypedStmt.TheVariants as stmts
use Rattle.gx_model.specs.ScriptMeaning.{Loaded, answers_of_script}
use Rattle.gx_model.specs.Values.{LoadedRows}

int_column : List ℕ → List Column
int_column name = (name, kind.Int) ∷ []

-- a statement that uses these and makes this
checked_stmt : TypedStmt → List ℕ → Option (List Column) → Option (List Column) → CheckedStmt
checked_stmt stmt used vertices edges =
    record { stmt = stmt; made = record { vertices = vertices; edges = edges }; uses = used }

loaded_rows : LoadedRows
loaded_rows =
    (1, (record { 0 = pos 3 }, record { 0 = pos 0 }, Int (pos 30) ∷ []) ∷ (record { 0 = pos 1 }, record { 0 = pos 0 }, Int (pos 25) ∷ []) ∷ [])
    ∷ (2, (record { 0 = pos 2 }, record { 0 = pos 3 }, Int (pos 1) ∷ []) ∷ (record { 0 = pos 1 }, record { 0 = pos 2 }, Int (pos 4) ∷ []) ∷ [])
    ∷ []

-- the script whose `mapvertices` sets x to this, and which ends with these actions on these statements
script_with : Expr → List (TypedStmt × ℕ) → Loaded
script_with x actions = record {
  loads = loaded_rows;
  checked =
      checked_stmt (stmts.Vertices (codes "ages.csv")) [] (Some (int_column (codes "age"))) None
      ∷ checked_stmt (stmts.Edges (codes "links.csv")) [] None (Some (int_column (codes "w")))
      ∷ checked_stmt (stmts.Graph 1 2 (Int (pos 0) ∷ [])) (1 ∷ 2 ∷ []) (Some (int_column (codes "age"))) (Some (int_column (codes "w")))
      ∷ checked_stmt (stmts.MapVertices 3 (x ∷ [])) (3 ∷ []) (Some (int_column (codes "x"))) (Some (int_column (codes "w")))
      ∷ map (λ a. checked_stmt a.0 (a.1 ∷ []) None None) actions;
}

-- an operation on the age of a vertex and a number
age_of_vertex : Expr
age_of_vertex = roll-Expr (layer.Column 1 side.Vertex 0)

int_const : ℕ → ℕ → Expr
int_const node n = roll-Expr (layer.Const node (Int (pos n)))

-- v.age + 1
next_age : Expr
next_age = roll-Expr (layer.Binary 0 binary.Add age_of_vertex (int_const 2 1))

-- 1 / v.age
share : Expr
share = roll-Expr (layer.Binary 0 binary.Div (int_const 2 1) age_of_vertex)

age_result : ScopeValues → EvalResult
age_result s = Ok (value_or_zero (slice_get (s.columns side.Vertex) 0))

next_age-result : (s : ScopeValues) → eval_result s next_age ≡ eval_binary 0 binary.Add (age_result s) (Ok (Int (pos 1)))
unfolding next_age age_of_vertex int_const age_result
next_age-result s =
    eval_result-roll s (layer.Binary 0 binary.Add age_of_vertex (int_const 2 1))
    ∙ ap₂ (eval_binary 0 binary.Add)
    (eval_result-roll s (layer.Column 1 side.Vertex 0))
    (eval_result-roll s (layer.Const 2 (Int (pos 1))))

share-result : (s : ScopeValues) → eval_result s share ≡ eval_binary 0 binary.Div (Ok (Int (pos 1))) (age_result s)
unfolding share age_of_vertex int_const age_result
share-result s =
    eval_result-roll s (layer.Binary 0 binary.Div (int_const 2 1) age_of_vertex)
    ∙ ap₂ (eval_binary 0 binary.Div)
    (eval_result-roll s (layer.Const 2 (Int (pos 1))))
    (eval_result-roll s (layer.Column 1 side.Vertex 0))

-- vertex 2 is an end without a row; edges are printed in edge order
prints-example : answers_of_script (script_with next_age ((stmts.PrintVertices 4, 4) ∷ (stmts.PrintEdges 3, 3) ∷ (stmts.CountTable 1, 1) ∷ []))
    ≡ record {
      answers =
          record { header = codes "id" ∷ codes "x" ∷ []; rows = (Int (pos 1) ∷ Int (pos 26) ∷ []) ∷ (Int (pos 2) ∷ Int (pos 1) ∷ []) ∷ (Int (pos 3) ∷ Int (pos 31) ∷ []) ∷ [] }
          ∷ record { header = codes "src" ∷ codes "dst" ∷ codes "w" ∷ []; rows = (Int (pos 1) ∷ Int (pos 2) ∷ Int (pos 4) ∷ []) ∷ (Int (pos 2) ∷ Int (pos 3) ∷ Int (pos 1) ∷ []) ∷ [] }
          ∷ record { header = codes "count" ∷ []; rows = (Int (pos 2) ∷ []) ∷ [] }
          ∷ [];
      fault = None;
    }
unfolding int_column checked_stmt loaded_rows script_with age_result
prints-example = rw (next_age-result, next_age-result, next_age-result) refl

-- the default of vertex 2 is 0: the action that uses h has a fault, and what is printed before stays
fault-example : answers_of_script (script_with share ((stmts.CountEdges 3, 3) ∷ (stmts.PrintVertices 4, 4) ∷ (stmts.PrintTable 1, 1) ∷ []))
    ≡ record {
      answers = record { header = codes "count" ∷ []; rows = (Int (pos 2) ∷ []) ∷ [] } ∷ [];
      fault = Some (record { statement = 4; key = row_key.Vertex (record { 0 = pos 2 }); expr = 0; cause = cause.DivideByZero });
    }
unfolding int_column checked_stmt loaded_rows script_with age_result
fault-example = rw (share-result, share-result, share-result) refl

-- no action uses h, so its fault is silent
silent-example : answers_of_script (script_with share ((stmts.CountTable 1, 1) ∷ []))
    ≡ record { answers = record { header = codes "count" ∷ []; rows = (Int (pos 2) ∷ []) ∷ [] } ∷ []; fault = None }
unfolding int_column checked_stmt loaded_rows script_with
silent-example = refl
