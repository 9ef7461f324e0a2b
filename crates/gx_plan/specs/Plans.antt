-- Plans: the lineage of a script with what each node is, and the plan with one more statement.
use Rattle.std.specs.Prelude.{◌≡◌, ℕ, ◌+◌, ◌-◌, ◌≤◌, ◌==◌, true, if◌then◌else◌, Option, None, Some, List, [], ◌∷◌, ◌++◌, get_or, is_some, length, map, option_map, replicate, set, take, unwrap_or}
use Rattle.std.specs.List.{filter_map, flat_map}
use Rattle.std.specs.Option.{option_or, option_to_list}
use Rattle.gx_lineage.specs.Lineage.{Lineage, first_nodes, with_node}
use Rattle.gx_lineage.specs.declared.input.Input.{Input}
use Rattle.gx_lineage.specs.declared.node_id.NodeId.{NodeId}
use Rattle.gx_lineage.specs.declared.node_kind.NodeKind.{NodeKind}
use Rattle.gx_types_stmts.specs.declared.checked_stmt.CheckedStmt.{CheckedStmt}
use Rattle.gx_types_stmts.specs.declared.typed_stmt.TypedStmt.{TypedStmt}
use Rattle.gx_plan.specs.Recipes.{GraphName, is_kind, node_kind_of, recipe_of}
use Rattle.gx_plan.specs.StmtNodes.{ScriptWithCut, asks, demanded_by, feeds, inherits, own_kinds, statement_of}
use Rattle.gx_plan.specs.declared.feed.Feed.{Feed}
use Rattle.gx_plan.specs.declared.kind.Kind.{Kind}
use Rattle.gx_plan.specs.declared.kind.Kind.TheVariants as kind
use Rattle.gx_plan.specs.declared.recipe.Recipe.{Recipe}
use Rattle.gx_plan.specs.declared.result_nodes.ResultNodes.{ResultNodes}

-- the nodes, the recipe of each, and the nodes of each statement's result, from statement 1 on;
-- none if the statement was not added
pub record Planned : Type 0 where
  pub lineage : Lineage
  pub recipes : List Recipe
  pub results : List (Option ResultNodes)

-- a plan as contracts see it
pub record PlannedScript : Type 0 where
  pub source : ScriptWithCut
  pub planned : Planned

-- no statement of so many was added
abbrev pub empty_plan : ℕ → ℕ → Planned
empty_plan parts statements = record {
  lineage = record { parts = parts; nodes = [] };
  recipes = [];
  results = replicate statements None;
}

-- ---- what was added

-- statement s was added
pub record IsAdded (p : Planned) (s : ℕ) : Type 0 where
  pub from_one : 1 ≤ s
  pub within : s ≤ length p.results
  pub result : is_some (get_or p.results (s - 1) None) ≡ true

abbrev pub no_nodes : ResultNodes
no_nodes = record { vertices = None; edges = None }

-- the nodes of the result of statement s
abbrev pub result_nodes : Planned → ℕ → ResultNodes
result_nodes p s = unwrap_or (get_or p.results (s - 1) None) no_nodes

abbrev pub node_in : Kind → ResultNodes → Option NodeId
node_in kind.Vertices l = l.vertices
node_in kind.Edges l = l.edges

-- the node of this kind at which a recipe is found: that of the result, for a kind of results
abbrev pub node_of_kind : Kind → Planned → Recipe → Option NodeId
node_of_kind kind.Vertices p r = node_in kind.Vertices (result_nodes p r.statement)
node_of_kind kind.Edges p r = node_in kind.Edges (result_nodes p r.statement)

-- the node at which this recipe is found
abbrev pub node_of : Planned → Recipe → Option NodeId
node_of p r = node_of_kind r.kind p r

-- the recipe of node n
abbrev pub recipe_at : List Recipe → ℕ → Recipe
recipe_at recipes n = get_or recipes n (recipe_of kind.Vertices 0)

-- ---- one more node

-- the input of a node that reads this; none if there is no such node
abbrev pub input_of : Planned → Feed → List Input
input_of p f = option_to_list (option_map (λ n. record { node = n; pattern = f.pattern }) (node_of p f.recipe))

-- the inputs of a node that reads these
abbrev pub inputs_of : Planned → List Feed → List Input
inputs_of p fs = flat_map (input_of p) fs

-- what a node of this recipe is in the lineage
abbrev pub node_kind_by : ScriptWithCut → Recipe → NodeKind
node_kind_by source r = node_kind_of r.kind (statement_of source.script r.statement)

-- the plan with the node of this recipe
abbrev pub with_recipe : ScriptWithCut → Planned → Recipe → Planned
with_recipe source p r = record {
  lineage = with_node p.lineage (node_kind_by source r) (inputs_of p (feeds source r));
  recipes = p.recipes ++ r ∷ [];
  results = p.results;
}

-- the plan with the nodes of these recipes, one after the other
abbrev pub with_recipes : ScriptWithCut → Planned → List Recipe → Planned
with_recipes source p [] = p
with_recipes source p (r ∷ rs) = with_recipes source (with_recipe source p r) rs

-- the first n nodes
abbrev pub first_planned : ℕ → Planned → Planned
first_planned n p = record { lineage = first_nodes n p.lineage; recipes = take n p.recipes; results = p.results }

-- ---- one more statement

-- the plan with the nodes of the view of this graph, if one is asked for: none is so far
abbrev pub viewed : ScriptWithCut → Planned → Option GraphName → Planned
viewed source p None = p
viewed source p (Some g) = p

-- the recipes of the nodes that statement s adds to a plan
abbrev pub own_recipes : Planned → ℕ → TypedStmt → List Recipe
own_recipes p s st = map (λ k. recipe_of k s) (own_kinds st)

-- the node of kind k, if nodes of these kinds are added from number n on
abbrev pub own_node : ℕ → Kind → List Kind → Option NodeId
own_node n k [] = None
own_node n k (x ∷ xs) = if is_kind k x then Some (record { 0 = n }) else own_node (n + 1) k xs

-- the node of kind k that a statement takes over, if it does
abbrev pub inherited_node : Planned → Kind → Option ℕ → Option NodeId
inherited_node p k None = None
inherited_node p k (Some m) = node_of p (recipe_of k m)

-- the node of kind k of a statement's result, if its own nodes are added to p
abbrev pub result_node : Planned → Kind → TypedStmt → Option NodeId
result_node p k st = option_or (own_node (length p.lineage.nodes) k (own_kinds st)) (inherited_node p k (inherits k st))

-- the nodes of a statement's result
abbrev pub result_of : Planned → TypedStmt → ResultNodes
result_of p st = record { vertices = result_node p kind.Vertices st; edges = result_node p kind.Edges st }

-- statement s has this result
abbrev pub with_result : Planned → ℕ → ResultNodes → Planned
with_result p s l = record p { results = set p.results (s - 1) (Some l) }

-- the plan with the own nodes of statement s, which is `st`, and its result
abbrev pub with_statement : ScriptWithCut → Planned → ℕ → TypedStmt → Planned
with_statement source p s st =
    with_result (with_recipes source p (own_recipes p s st)) s (result_of p st)

-- the plan with statement s: the view that it asks for, and then its own nodes
abbrev pub with_number : ScriptWithCut → Planned → ℕ → Planned
with_number source p s =
    with_statement source (viewed source p (asks (statement_of source.script s))) s
    (statement_of source.script s)

-- ---- phases

-- the nodes of these recipes
abbrev pub nodes_of : Planned → List Recipe → List NodeId
nodes_of p rs = filter_map (node_of p) rs

-- the phase of these nodes; none if there is no node
abbrev pub phase_at : List NodeId → List (List NodeId)
phase_at ns = if length ns == 0 then [] else ns ∷ []

-- the phases of the nodes of these kinds of statement s, each of its own
abbrev pub own_phases : Planned → ℕ → List Kind → List (List NodeId)
own_phases p s ks = flat_map (λ k. phase_at (nodes_of p (recipe_of k s ∷ []))) ks

-- the target nodes of each phase of statement s, `st`: of its own nodes, and of what it demands
abbrev pub phases_of_stmt : Planned → ℕ → TypedStmt → List (List NodeId)
phases_of_stmt p s st = own_phases p s (own_kinds st) ++ phase_at (nodes_of p (demanded_by st))

abbrev pub phases_of : List CheckedStmt → Planned → ℕ → List (List NodeId)
phases_of script p s = phases_of_stmt p s (statement_of script s)
