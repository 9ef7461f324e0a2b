-- What holds of each plan: every node is fed by what its recipe reads, and at the result of each
-- statement is the node that its owner added.
use Rattle.std.specs.Prelude.{◌≡◌, ℕ, ◌<◌, ◌≤◌, Bool, true, Option, None, Some, List, [], ◌∷◌, ◌++◌, get_or, length, ⊤, ◌-◌}
use Rattle.std.specs.List.{AllByRecursion, list_any}
use Rattle.gx_lineage.specs.Lineage.{node_inputs}
use Rattle.gx_lineage.specs.Nodes.{Node}
use Rattle.gx_lineage.specs.declared.input.Input.{Input}
use Rattle.gx_lineage.specs.declared.node_id.NodeId.{NodeId}
use Rattle.gx_types_stmts.specs.StmtNumbers.{named_numbers}
use Rattle.gx_types_stmts.specs.declared.checked_stmt.CheckedStmt.{CheckedStmt}
use Rattle.gx_types_stmts.specs.declared.typed_stmt.TypedStmt.{TypedStmt}
use Rattle.gx_plan.specs.Plans.{IsAdded, Planned, node_of, recipe_at, with_recipe}
use Rattle.gx_plan.specs.Recipes.{is_kind, is_result}
use Rattle.gx_plan.specs.StmtNodes.{ScriptWithCut, feeds, inherits, own_kinds, statement_of}
use Rattle.gx_plan.specs.declared.feed.Feed.{Feed}
use Rattle.gx_plan.specs.declared.kind.Kind.{Kind}
use Rattle.gx_plan.specs.declared.kind.Kind.TheVariants as kind
use Rattle.gx_plan.specs.declared.recipe.Recipe.{Recipe}

-- ---- owners

-- a statement adds a node of this kind
abbrev pub is_own : Kind → TypedStmt → Bool
is_own k st = list_any (is_kind k) (own_kinds st)

-- the node of kind k of the result of the one statement is the node that the other added
pub data Owns (script : List CheckedStmt) (k : Kind) : ℕ → ℕ → Type 0 where
  own : {s : ℕ} → is_own k (statement_of script s) ≡ true → Owns script k s s
  taken : {s m owner : ℕ} → inherits k (statement_of script s) ≡ Some m → Owns script k m owner → Owns script k s owner

-- a node of recipe `made` serves where recipe r is asked for
abbrev pub Serves : List CheckedStmt → Kind → Recipe → Recipe → Type 0
Serves script kind.Vertices r made = Owns script kind.Vertices r.statement made.statement
Serves script kind.Edges r made = Owns script kind.Edges r.statement made.statement

-- no node of this kind serves where recipe r is asked for: its statement makes no such rows
abbrev pub IsUnserved : List CheckedStmt → Kind → Recipe → Type 0
IsUnserved script kind.Vertices r = (owner : ℕ) → Owns script kind.Vertices r.statement owner → ⊥
IsUnserved script kind.Edges r = (owner : ℕ) → Owns script kind.Edges r.statement owner → ⊥

-- node n, of these recipes, serves where recipe r is asked for
pub record Stands (script : List CheckedStmt) (recipes : List Recipe) (r : Recipe) (n : NodeId) : Type 0 where
  pub inside : n.0 < length recipes
  pub kind : (recipe_at recipes n.0).kind ≡ r.kind
  pub serves : Serves script r.kind r (recipe_at recipes n.0)

-- this is the node that serves where recipe r is asked for, and none only if none does
abbrev pub IsNodeFor : List CheckedStmt → List Recipe → Recipe → Option NodeId → Type 0
IsNodeFor script recipes r (Some n) = Stands script recipes r n
IsNodeFor script recipes r None = IsUnserved script r.kind r

-- the plan has a node for recipe r, if any serves
abbrev pub HasNodeFor : List CheckedStmt → Planned → Recipe → Type 0
HasNodeFor script p r = IsNodeFor script p.recipes r (node_of p r)

-- ---- inputs

-- a node that reads these has these inputs; what no node serves is left out
pub data AreInputsFor (script : List CheckedStmt) (recipes : List Recipe) : List Feed → List Input → Type 0 where
  end : AreInputsFor script recipes [] []
  from : {f : Feed} {i : Input} {fs : List Feed} {is : List Input} → Stands script recipes f.recipe i.node → i.pattern ≡ f.pattern
      → AreInputsFor script recipes fs is → AreInputsFor script recipes (f ∷ fs) (i ∷ is)
  skipped : {f : Feed} {fs : List Feed} {is : List Input} → IsUnserved script f.recipe.kind f.recipe
      → AreInputsFor script recipes fs is → AreInputsFor script recipes (f ∷ fs) is

-- a node of this kind of a statement may be in a plan, by its recipe
abbrev pub Fits : Kind → TypedStmt → Recipe → Type 0
Fits kind.Vertices st r = is_own kind.Vertices st ≡ true
Fits kind.Edges st r = is_own kind.Edges st ≡ true

-- recipe r is that of a node which a statement adds
pub record IsOwnRecipe (script : List CheckedStmt) (r : Recipe) : Type 0 where
  pub from_one : 1 ≤ r.statement
  pub within : r.statement ≤ length script
  pub fit : Fits r.kind (statement_of script r.statement) r

-- a node of this recipe has these inputs
pub record IsFed (source : ScriptWithCut) (recipes : List Recipe) (r : Recipe) (inputs : List Input)
    : Type 0 where
  pub own : IsOwnRecipe source.script r
  pub read : AreInputsFor source.script recipes (feeds source r) inputs

-- ---- plans

pub record IsPlan (source : ScriptWithCut) (p : Planned) : Type 0 where
  pub recipes : length p.recipes ≡ length p.lineage.nodes
  pub results : length p.results ≡ length source.script
  -- the nodes of each result
  pub nodes : (r : Recipe) → is_result r.kind ≡ true → IsAdded p r.statement
      → HasNodeFor source.script p r
  pub fed : (n : ℕ) → n < length p.recipes
      → IsFed source p.recipes (recipe_at p.recipes n) (node_inputs p.lineage (record { 0 = n }))

-- the node of recipe r may be added
pub record MayPush (source : ScriptWithCut) (p : Planned) (r : Recipe) : Type 0 where
  pub plan : IsPlan source p
  pub own : IsOwnRecipe source.script r
  pub nodes : AllByRecursion (λ f. HasNodeFor source.script p f.recipe) (feeds source r)

-- the nodes of these recipes may be added, one after the other
abbrev pub MayPushAll : ScriptWithCut → Planned → List Recipe → Type 0
MayPushAll source p [] = ⊤
MayPushAll source p (r ∷ rs) = MayPush source p r × MayPushAll source (with_recipe source p r) rs

-- statement s may be added
pub record MayAdd (source : ScriptWithCut) (p : Planned) (s : ℕ) : Type 0 where
  pub plan : IsPlan source p
  pub from_one : 1 ≤ s
  pub within : s ≤ length source.script
  pub named : AllByRecursion (IsAdded p) (named_numbers (statement_of source.script s))

-- p is the beginning of q: nodes come after its nodes, and each of its results is kept
pub record IsFrontOf (p q : Planned) : Type 0 where
  pub parts : q.lineage.parts ≡ p.lineage.parts
  pub more_nodes : List Node
  pub nodes : q.lineage.nodes ≡ p.lineage.nodes ++ more_nodes
  pub more_recipes : List Recipe
  pub recipes : q.recipes ≡ p.recipes ++ more_recipes
  pub results : (s : ℕ) → IsAdded p s
      → get_or q.results (s - 1) None ≡ get_or p.results (s - 1) None
  pub added : (s : ℕ) → IsAdded p s → IsAdded q s
