-- Recipes of nodes, the graphs that they name, and what a node reads.
use Rattle.std.specs.Prelude.{ℕ, Bool, true, false}
use Rattle.gx_lineage.specs.declared.input.Pattern.TheVariants.{Same, All as EachPart}
use Rattle.gx_lineage.specs.declared.node_kind.NodeKind.{NodeKind}
use Rattle.gx_lineage.specs.declared.node_kind.NodeKind.TheVariants as node_kind
use Rattle.gx_types_stmts.specs.declared.typed_stmt.TypedStmt.{TypedStmt}
use Rattle.gx_plan.specs.declared.feed.Feed.{Feed}
use Rattle.gx_plan.specs.declared.kind.Kind.{Kind}
use Rattle.gx_plan.specs.declared.kind.Kind.TheVariants as kind
use Rattle.gx_plan.specs.declared.recipe.Recipe.{Recipe}

-- the name of a table or a graph: the statement that makes it, and the step of its rounds
pub record GraphName : Type 0 where
  -- counted from 1
  pub statement : ℕ
  -- 0, if the statement has no rounds
  pub step : ℕ

-- the recipe of the node of this kind that statement s adds, if it has no rounds
abbrev pub recipe_of : Kind → ℕ → Recipe
recipe_of k s = record { kind = k; statement = s; step = 0 }

-- the table or graph of which the blocks of a node of this recipe hold the rows or the edges
abbrev pub graph_of : Recipe → GraphName
graph_of r = record { statement = r.statement; step = r.step }

-- each part reads the part of the same number of what statement s gives
abbrev pub same_part : Kind → ℕ → Feed
same_part k s = record { recipe = recipe_of k s; pattern = Same }

-- each part reads all parts of what statement s gives
abbrev pub each_part : Kind → ℕ → Feed
each_part k s = record { recipe = recipe_of k s; pattern = EachPart }

-- what a node of this kind of a statement is in the lineage
abbrev pub node_kind_of : Kind → TypedStmt → NodeKind
node_kind_of kind.Vertices st = node_kind.Vertices
node_kind_of kind.Edges st = node_kind.Edges

-- a result has nodes of this kind: of its vertices, or of its edges
abbrev pub is_result : Kind → Bool
is_result kind.Vertices = true
is_result kind.Edges = true

-- what is read is a result
abbrev pub reads_result : Feed → Bool
reads_result f = is_result f.recipe.kind

-- whether the two are the same
abbrev pub is_kind : Kind → Kind → Bool
is_kind kind.Vertices kind.Vertices = true
is_kind kind.Edges kind.Edges = true
is_kind _ _ = false
