-- A statement whose result has no node of a kind has no rows of that kind.
use Rattle.std.proofs.Common.{◌≡◌, ℕ, ◌≤◌, Bool, true, false, List, [], length, refl, ap, ◌∙◌}
use Rattle.gx_model.specs.Graphs.{Graph, Placement}
use Rattle.gx_model.specs.Values.{LoadedRows, value_of_stmt}
use Rattle.gx_plan.specs.PlanInvariant.{IsUnserved, Owns}
use Rattle.gx_plan.specs.PlanLaws.{makes_kind}
use Rattle.gx_plan.specs.Recipes.{recipe_of}
use Rattle.gx_plan.specs.StmtNodes.{statement_of}
use Rattle.gx_plan.specs.declared.kind.Kind.{Kind}
use Rattle.gx_plan.specs.declared.kind.Kind.TheVariants as kind
use Rattle.gx_plan.specs.SortedScriptLaws.{sorted-owned}
use Rattle.gx_types_stmts.specs.declared.typed_stmt.TypedStmt.{TypedStmt}
use Rattle.gx_types_stmts.specs.declared.typed_stmt.TypedStmt.TheVariants as stmts
use Rattle.gx_exec_contents.specs.Worlds.{IsWorld, World, places_in, placed_values, source_of, value_in}
use Rattle.gx_exec_contents.specs.StatementValueLaws.{value_in-stmt}
use Rattle.gx_exec_reads.specs.ScriptNameLaws.{statement-found}

unmade-vertices : (placement : Placement ℕ) (loads : LoadedRows) (vs : List (Graph ℕ)) (s : ℕ) (st : TypedStmt) → makes_kind kind.Vertices st ≡ false → (value_of_stmt placement loads vs s st).vertices ≡ []
unmade-vertices placement loads vs s (stmts.Vertices file) none = absurd cc
unmade-vertices placement loads vs s (stmts.Graph t e default) none = absurd cc
unmade-vertices placement loads vs s (stmts.FromEdges e row) none = absurd cc
unmade-vertices placement loads vs s (stmts.Partition g cut) none = absurd cc
unmade-vertices placement loads vs s (stmts.MapVertices g sets) none = absurd cc
unmade-vertices placement loads vs s (stmts.Filter t condition) none = absurd cc
unmade-vertices placement loads vs s (stmts.MapValues t sets) none = absurd cc
unmade-vertices placement loads vs s (stmts.Minus t u) none = absurd cc
unmade-vertices placement loads vs s (stmts.Diff t u) none = absurd cc
unmade-vertices placement loads vs s (stmts.InnerJoin t u sets) none = absurd cc
unmade-vertices placement loads vs s (stmts.LeftJoin t u default sets) none = absurd cc
unmade-vertices placement loads vs s _ none = refl

unmade-edges : (placement : Placement ℕ) (loads : LoadedRows) (vs : List (Graph ℕ)) (s : ℕ) (st : TypedStmt) → makes_kind kind.Edges st ≡ false → (value_of_stmt placement loads vs s st).edges ≡ []
unmade-edges placement loads vs s (stmts.Edges file) none = absurd cc
unmade-edges placement loads vs s (stmts.EdgeList file oriented) none = absurd cc
unmade-edges placement loads vs s (stmts.Graph t e default) none = absurd cc
unmade-edges placement loads vs s (stmts.FromEdges e row) none = absurd cc
unmade-edges placement loads vs s (stmts.Partition g cut) none = absurd cc
unmade-edges placement loads vs s (stmts.MapVertices g sets) none = absurd cc
unmade-edges placement loads vs s _ none = refl

module _ (w : World) (world : IsWorld w) (g : ℕ) (low : 1 ≤ g) (high : g ≤ length w.script) where
  unowned : (k : Kind) (owner : ℕ) → IsUnserved w.script k (recipe_of k g) → Owns w.script k g owner → ⊥
  unowned kind.Vertices owner none owns = none owner owns
  unowned kind.Edges owner none owns = none owner owns

  -- no node serves, so the statement makes none
  unserved-unmade : (k : Kind) → IsUnserved w.script k (recipe_of k g) → makes_kind k (statement_of w.script g) ≡ false
  unserved-unmade k none = by (makes_kind k (statement_of w.script g)) refl
    where
      by : (b : Bool) → makes_kind k (statement_of w.script g) ≡ b → b ≡ false
      by true makes =
          let owned = (sorted-owned (source_of w) world.sorts).results g k low makes in
          absurd (unowned k owned.0 none owned.1)
      by false makes = refl

  value-is : value_in w g ≡ value_of_stmt (places_in w) w.loads (placed_values w) g (statement_of w.script g)
  value-is = value_in-stmt w world g (statement_of w.script g) low (statement-found w.script g low high)

  pub unserved-vertices : IsUnserved w.script kind.Vertices (recipe_of kind.Vertices g) → (value_in w g).vertices ≡ []
  unserved-vertices none =
      ap (λ (v : Graph ℕ). v.vertices) value-is
      ∙ unmade-vertices (places_in w) w.loads (placed_values w) g (statement_of w.script g) (unserved-unmade kind.Vertices none)

  pub unserved-edges : IsUnserved w.script kind.Edges (recipe_of kind.Edges g) → (value_in w g).edges ≡ []
  unserved-edges none =
      ap (λ (v : Graph ℕ). v.edges) value-is
      ∙ unmade-edges (places_in w) w.loads (placed_values w) g (statement_of w.script g) (unserved-unmade kind.Edges none)
