-- The nodes that each statement adds, what they read, and whose nodes it takes over.
--
-- To plan a statement, add its lines here. A statement without lines adds no node and takes over
-- none: those that need a view, a route or rounds, and `groupedges`.
use Rattle.std.specs.Prelude.{◌≡◌, ℕ, ◌-◌, Option, None, Some, List, [], ◌∷◌, slice_get, unwrap_or, option_map, refl}
use Rattle.gx_rows.specs.declared.cut.Cut.{Cut}
use Rattle.gx_types_stmts.specs.declared.checked_stmt.CheckedStmt.{CheckedStmt}
use Rattle.gx_types_stmts.specs.declared.typed_stmt.TypedStmt.{TypedStmt}
use Rattle.gx_types_stmts.specs.declared.typed_stmt.TypedStmt.TheVariants as stmts
use Rattle.gx_plan.specs.Recipes.{GraphName, each_part, recipe_of, same_part}
use Rattle.gx_plan.specs.declared.feed.Feed.{Feed}
use Rattle.gx_plan.specs.declared.kind.Kind.{Kind}
use Rattle.gx_plan.specs.declared.kind.Kind.TheVariants.{Vertices, Edges}
use Rattle.gx_plan.specs.declared.recipe.Recipe.{Recipe}

-- a script, and the cut that places the edges of its loads
pub record ScriptWithCut : Type 0 where
  pub script : List CheckedStmt
  pub cut : Cut

-- ---- by statement

-- the nodes that a statement adds, in order; each is a phase of its own
abbrev pub own_kinds : TypedStmt → List Kind
own_kinds (stmts.Vertices file) = Vertices ∷ []
own_kinds (stmts.Edges file) = Edges ∷ []
own_kinds (stmts.EdgeList file oriented) = Edges ∷ []
own_kinds (stmts.Graph t e default) = Vertices ∷ []
own_kinds (stmts.FromEdges e row) = Vertices ∷ []
own_kinds (stmts.Reverse g) = Edges ∷ []
own_kinds (stmts.Mask g by) = Vertices ∷ Edges ∷ []
own_kinds (stmts.Partition g cut) = Edges ∷ []
own_kinds (stmts.MapVertices g sets) = Vertices ∷ []
own_kinds (stmts.MapEdges g sets) = Edges ∷ []
own_kinds (stmts.JoinVertices g t sets) = Vertices ∷ []
own_kinds (stmts.OuterJoin g t default sets) = Vertices ∷ []
own_kinds (stmts.Filter t condition) = Vertices ∷ []
own_kinds (stmts.MapValues t sets) = Vertices ∷ []
own_kinds (stmts.Minus t u) = Vertices ∷ []
own_kinds (stmts.Diff t u) = Vertices ∷ []
own_kinds (stmts.InnerJoin t u sets) = Vertices ∷ []
own_kinds (stmts.LeftJoin t u default sets) = Vertices ∷ []
own_kinds _ = []

-- what a statement's own node of a kind reads, input by input, in a script and by its whole recipe
abbrev pub feeds_kind : Kind → TypedStmt → ScriptWithCut → Recipe → List Feed
feeds_kind Vertices (stmts.Graph t e default) source r =
    same_part Vertices t ∷ each_part Edges e ∷ []
feeds_kind Vertices (stmts.FromEdges e row) source r = each_part Edges e ∷ []
feeds_kind Edges (stmts.Reverse g) source r = same_part Edges g ∷ []
feeds_kind Vertices (stmts.Mask g by) source r = same_part Vertices g ∷ same_part Vertices by ∷ []
feeds_kind Edges (stmts.Mask g by) source r = same_part Edges g ∷ each_part Edges by ∷ []
feeds_kind Edges (stmts.Partition g cut) source r = each_part Edges g ∷ []
feeds_kind Vertices (stmts.MapVertices g sets) source r = same_part Vertices g ∷ []
feeds_kind Edges (stmts.MapEdges g sets) source r = same_part Edges g ∷ []
feeds_kind Vertices (stmts.JoinVertices g t sets) source r =
    same_part Vertices g ∷ same_part Vertices t ∷ []
feeds_kind Vertices (stmts.OuterJoin g t default sets) source r =
    same_part Vertices g ∷ same_part Vertices t ∷ []
feeds_kind Vertices (stmts.Filter t condition) source r = same_part Vertices t ∷ []
feeds_kind Vertices (stmts.MapValues t sets) source r = same_part Vertices t ∷ []
feeds_kind Vertices (stmts.Minus t u) source r = same_part Vertices t ∷ same_part Vertices u ∷ []
feeds_kind Vertices (stmts.Diff t u) source r = same_part Vertices t ∷ same_part Vertices u ∷ []
feeds_kind Vertices (stmts.InnerJoin t u sets) source r =
    same_part Vertices t ∷ same_part Vertices u ∷ []
feeds_kind Vertices (stmts.LeftJoin t u default sets) source r =
    same_part Vertices t ∷ same_part Vertices u ∷ []
feeds_kind _ _ source r = []

-- the statement whose node of this kind a statement takes over, if it does
abbrev pub inherits : Kind → TypedStmt → Option ℕ
inherits Edges (stmts.Graph t e default) = Some e
inherits Edges (stmts.FromEdges e row) = Some e
inherits Vertices (stmts.Reverse g) = Some g
inherits Vertices (stmts.Partition g cut) = Some g
inherits Edges (stmts.MapVertices g sets) = Some g
inherits Vertices (stmts.MapEdges g sets) = Some g
inherits Edges (stmts.JoinVertices g t sets) = Some g
inherits Edges (stmts.OuterJoin g t default sets) = Some g
inherits _ _ = None

-- the graph of which a statement asks for a view before its own nodes; none does so far
abbrev pub asks : TypedStmt → Option GraphName
asks st = None

-- the nodes that an action demands, all at once
abbrev pub demanded_by : TypedStmt → List Recipe
demanded_by (stmts.PrintVertices g) = recipe_of Vertices g ∷ []
demanded_by (stmts.PrintEdges g) = recipe_of Edges g ∷ []
demanded_by (stmts.PrintTable t) = recipe_of Vertices t ∷ []
demanded_by (stmts.CountVertices g) = recipe_of Vertices g ∷ []
demanded_by (stmts.CountEdges g) = recipe_of Edges g ∷ []
demanded_by (stmts.CountTable t) = recipe_of Vertices t ∷ []
demanded_by _ = []

-- ---- by the numbers of statements

-- statement s, counted from 1; an action that adds nothing if there is none
abbrev pub statement_of : List CheckedStmt → ℕ → TypedStmt
statement_of script s = unwrap_or (option_map (λ c. c.stmt) (slice_get script (s - 1))) (stmts.CountTable 0)

-- what a node of this recipe reads
abbrev pub feeds : ScriptWithCut → Recipe → List Feed
feeds source r = feeds_kind r.kind (statement_of source.script r.statement) source r

-- `mask` adds two nodes; `mapvertices` takes over the edges of its graph
two-own-nodes : (own_kinds (stmts.Mask 1 2) ≡ Vertices ∷ Edges ∷ [])
    × (inherits Edges (stmts.MapVertices 2 []) ≡ Some 2)
two-own-nodes = (refl, refl)
