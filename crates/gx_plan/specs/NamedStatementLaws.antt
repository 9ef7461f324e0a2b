-- What a statement reads or takes over is a statement that it names.
use Rattle.std.proofs.Common.{◌≡◌, ℕ, Some, true, refl, subst}
use Rattle.std.specs.List.{AllByRecursion}
use Rattle.gx_types_stmts.specs.StmtNumbers.{named_numbers}
use Rattle.gx_types_stmts.specs.declared.typed_stmt.TypedStmt.{TypedStmt}
use Rattle.gx_types_stmts.specs.declared.typed_stmt.TypedStmt.TheVariants as stmts
use Rattle.gx_plan.specs.Recipes.{is_result}
use Rattle.gx_plan.specs.StmtNodes.{ScriptWithCut, feeds_kind, inherits}
use Rattle.gx_plan.specs.declared.kind.Kind.{Kind}
use Rattle.gx_plan.specs.declared.kind.Kind.TheVariants.{Vertices, Edges}
use Rattle.gx_plan.specs.declared.recipe.Recipe.{Recipe}

pub feeds-named : (P : ℕ → Type 0) (source : ScriptWithCut) (r : Recipe) (k : Kind) (st : TypedStmt) → AllByRecursion P (named_numbers st)
    → AllByRecursion (λ f. (is_result f.recipe.kind ≡ true) × P f.recipe.statement) (feeds_kind k st source r)
feeds-named P source r Vertices (stmts.Graph t e default) h = ((refl, h.0), ((refl, h.1.0), tt))
feeds-named P source r Vertices (stmts.FromEdges e row) h = ((refl, h.0), tt)
feeds-named P source r Edges (stmts.Reverse g) h = ((refl, h.0), tt)
feeds-named P source r Vertices (stmts.Mask g by) h = ((refl, h.0), ((refl, h.1.0), tt))
feeds-named P source r Edges (stmts.Mask g by) h = ((refl, h.0), ((refl, h.1.0), tt))
feeds-named P source r Edges (stmts.Partition g cut) h = ((refl, h.0), tt)
feeds-named P source r Vertices (stmts.MapVertices g sets) h = ((refl, h.0), tt)
feeds-named P source r Edges (stmts.MapEdges g sets) h = ((refl, h.0), tt)
feeds-named P source r Vertices (stmts.JoinVertices g t sets) h = ((refl, h.0), ((refl, h.1.0), tt))
feeds-named P source r Vertices (stmts.OuterJoin g t default sets) h = ((refl, h.0), ((refl, h.1.0), tt))
feeds-named P source r Vertices (stmts.Filter t condition) h = ((refl, h.0), tt)
feeds-named P source r Vertices (stmts.MapValues t sets) h = ((refl, h.0), tt)
feeds-named P source r Vertices (stmts.Minus t u) h = ((refl, h.0), ((refl, h.1.0), tt))
feeds-named P source r Vertices (stmts.Diff t u) h = ((refl, h.0), ((refl, h.1.0), tt))
feeds-named P source r Vertices (stmts.InnerJoin t u sets) h = ((refl, h.0), ((refl, h.1.0), tt))
feeds-named P source r Vertices (stmts.LeftJoin t u default sets) h = ((refl, h.0), ((refl, h.1.0), tt))
feeds-named P source r _ _ h = tt

pub inherits-named : (P : ℕ → Type 0) (k : Kind) (st : TypedStmt) (m : ℕ) → inherits k st ≡ Some m → AllByRecursion P (named_numbers st) → P m
inherits-named P Edges (stmts.Graph t e default) m is h = subst P (cc is) h.1.0
inherits-named P Edges (stmts.FromEdges e row) m is h = subst P (cc is) h.0
inherits-named P Vertices (stmts.Reverse g) m is h = subst P (cc is) h.0
inherits-named P Vertices (stmts.Partition g cut) m is h = subst P (cc is) h.0
inherits-named P Edges (stmts.MapVertices g sets) m is h = subst P (cc is) h.0
inherits-named P Vertices (stmts.MapEdges g sets) m is h = subst P (cc is) h.0
inherits-named P Edges (stmts.JoinVertices g t sets) m is h = subst P (cc is) h.0
inherits-named P Edges (stmts.OuterJoin g t default sets) m is h = subst P (cc is) h.0
inherits-named P _ _ m is h = cc
