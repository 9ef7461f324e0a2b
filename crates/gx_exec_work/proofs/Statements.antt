-- Statement by statement, what is made of the contents of inputs.
use Rattle.std.proofs.Common.{◌≡◌, ℕ, List, [], ◌∷◌, refl}
use Rattle.gx_exec_contents.specs.MadeBlocks.{made_kind}
use Rattle.gx_exec_contents.specs.PartContents.{Content}
use Rattle.gx_exec_contents.specs.Worlds.{World}
use Rattle.gx_exec_work.specs.MadeTables.{made_vertices}
use Rattle.gx_plan.specs.declared.kind.Kind.TheVariants as kind
use Rattle.gx_plan.specs.declared.recipe.Recipe.{Recipe}
use Rattle.gx_types_stmts.specs.declared.typed_stmt.TypedStmt.{TypedStmt}
use Rattle.gx_types_stmts.specs.declared.typed_stmt.TypedStmt.TheVariants as stmts

pub made_vertices-kind : (w : World) (r : Recipe) (i : ℕ) (st : TypedStmt) (contents : List Content) → made_vertices w r i st contents ≡ made_kind w kind.Vertices r i st contents
made_vertices-kind w r i (stmts.Graph t e default) [] = refl
made_vertices-kind w r i (stmts.Graph t e default) (c ∷ contents) = refl
made_vertices-kind w r i (stmts.MapVertices g sets) [] = refl
made_vertices-kind w r i (stmts.MapVertices g sets) (c ∷ contents) = refl
made_vertices-kind w r i (stmts.Filter t condition) [] = refl
made_vertices-kind w r i (stmts.Filter t condition) (c ∷ contents) = refl
made_vertices-kind w r i (stmts.MapValues t sets) [] = refl
made_vertices-kind w r i (stmts.MapValues t sets) (c ∷ contents) = refl
made_vertices-kind w r i (stmts.Minus t u) [] = refl
made_vertices-kind w r i (stmts.Minus t u) (c ∷ []) = refl
made_vertices-kind w r i (stmts.Minus t u) (c ∷ d ∷ contents) = refl
made_vertices-kind w r i (stmts.Diff t u) [] = refl
made_vertices-kind w r i (stmts.Diff t u) (c ∷ []) = refl
made_vertices-kind w r i (stmts.Diff t u) (c ∷ d ∷ contents) = refl
made_vertices-kind w r i (stmts.InnerJoin t u sets) [] = refl
made_vertices-kind w r i (stmts.InnerJoin t u sets) (c ∷ []) = refl
made_vertices-kind w r i (stmts.InnerJoin t u sets) (c ∷ d ∷ contents) = refl
made_vertices-kind w r i (stmts.LeftJoin t u default sets) [] = refl
made_vertices-kind w r i (stmts.LeftJoin t u default sets) (c ∷ []) = refl
made_vertices-kind w r i (stmts.LeftJoin t u default sets) (c ∷ d ∷ contents) = refl
made_vertices-kind w r i _ contents = refl
