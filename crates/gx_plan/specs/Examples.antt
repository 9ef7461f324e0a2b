-- The plan of a script of eight statements in two parts.
--
--     vertices t from "t" (); edges e from "e" (); graph g = t, e default ();
--     mapvertices h = g (); filter f = t where true; innerjoin j = t, f ();
--     mask m = h by g; print edges m;
use Rattle.std.specs.Prelude.{◌≡◌, ℕ, true, List, [], ◌∷◌, None, Some, map, refl}
use Rattle.gx_rows.specs.declared.cut.Cut.TheVariants.{OneD}
use Rattle.gx_expr.specs.declared.expr.Expr.{roll-Expr}
use Rattle.gx_expr.specs.declared.expr.Expr.TheOpen as layer
use Rattle.gx_rows.specs.declared.value.Value.TheVariants.{Bool as Truth}
use Rattle.gx_lineage.specs.declared.input.Input.{Input}
use Rattle.gx_lineage.specs.declared.input.Pattern.TheVariants.{Same, All as EachPart}
use Rattle.gx_types_stmts.specs.StmtNumbers.{named_numbers}
use Rattle.gx_types_stmts.specs.declared.checked_stmt.CheckedStmt.{CheckedStmt}
use Rattle.gx_types_stmts.specs.declared.typed_stmt.TypedStmt.{TypedStmt}
use Rattle.gx_types_stmts.specs.declared.typed_stmt.TypedStmt.TheVariants as stmts
use Rattle.gx_plan.specs.Plans.{Planned, empty_plan, phases_of, result_nodes, with_number}
use Rattle.gx_plan.specs.Recipes.{recipe_of}
use Rattle.gx_plan.specs.StmtNodes.{ScriptWithCut}
use Rattle.gx_plan.specs.declared.kind.Kind.TheVariants.{Vertices, Edges}

checked_as : TypedStmt → CheckedStmt
checked_as st = record { stmt = st; made = record { vertices = None; edges = None }; uses = named_numbers st }

eight_statements : List CheckedStmt
eight_statements = map checked_as (
    stmts.Vertices [] ∷ stmts.Edges [] ∷ stmts.Graph 1 2 [] ∷ stmts.MapVertices 3 [] ∷ stmts.Filter 1 (roll-Expr (layer.Const 0 (Truth true)))
    ∷ stmts.InnerJoin 1 5 [] ∷ stmts.Mask 4 3 ∷ stmts.PrintEdges 7 ∷ []
    )

with_numbers : ScriptWithCut → Planned → List ℕ → Planned
with_numbers source p [] = p
with_numbers source p (s ∷ ss) = with_numbers source (with_number source p s) ss

plan_of_eight : Planned
plan_of_eight = with_numbers (record { script = eight_statements; cut = OneD }) (empty_plan 2 8) (1 ∷ 2 ∷ 3 ∷ 4 ∷ 5 ∷ 6 ∷ 7 ∷ 8 ∷ [])

same_part_of : ℕ → Input
same_part_of n = record { node = record { 0 = n }; pattern = Same }

all_parts_of : ℕ → Input
all_parts_of n = record { node = record { 0 = n }; pattern = EachPart }

-- what each node is
recipes-of_eight : plan_of_eight.recipes ≡ recipe_of Vertices 1 ∷ recipe_of Edges 2 ∷ recipe_of Vertices 3 ∷ recipe_of Vertices 4 ∷ recipe_of Vertices 5
    ∷ recipe_of Vertices 6 ∷ recipe_of Vertices 7 ∷ recipe_of Edges 7 ∷ []
unfolding checked_as eight_statements with_numbers plan_of_eight
recipes-of_eight = refl

-- what each node is computed from
inputs-of_eight : map (λ n. n.inputs) plan_of_eight.lineage.nodes ≡ [] ∷ [] ∷ (same_part_of 0 ∷ all_parts_of 1 ∷ []) ∷ (same_part_of 2 ∷ []) ∷ (same_part_of 0 ∷ [])
    ∷ (same_part_of 0 ∷ same_part_of 4 ∷ []) ∷ (same_part_of 3 ∷ same_part_of 2 ∷ []) ∷ (same_part_of 1 ∷ all_parts_of 1 ∷ []) ∷ []
unfolding checked_as eight_statements with_numbers plan_of_eight same_part_of all_parts_of
inputs-of_eight = refl

-- `h` has the edges of the load; `mask` has two phases, and the action demands its edges
results-of_eight : (result_nodes plan_of_eight 4 ≡ record { vertices = Some (record { 0 = 3 }); edges = Some (record { 0 = 1 }) })
    × (phases_of eight_statements plan_of_eight 7 ≡ (record { 0 = 6 } ∷ []) ∷ (record { 0 = 7 } ∷ []) ∷ [])
    × (phases_of eight_statements plan_of_eight 8 ≡ (record { 0 = 7 } ∷ []) ∷ [])
unfolding checked_as eight_statements with_numbers plan_of_eight
results-of_eight = (refl, refl, refl)
