-- An action has one phase, whose blocks are those of one node.
use Rattle.std.proofs.Common.{◌≡◌, ℕ, ◌-◌, ◌≤◌, List, [], ◌∷◌, Option, None, Some, IsSome, flat_map, length, map, refl, ap, ◌∙◌, subst, arith}
use Rattle.std.specs.List.{cons_option, range_with_len, slice_get}
use Rattle.std.specs.Option.{option_and_then}
use Rattle.std.proofs.lemmas.List.{append-nil, length-map}
use Rattle.std.proofs.lemmas.List.FromFn.{length-range_with_len}
use Rattle.gx_lineage.specs.Lineage.{blocks_at}
use Rattle.gx_lineage.specs.declared.block_id.BlockId.{BlockId}
use Rattle.gx_lineage.specs.declared.node_id.NodeId.{NodeId}
use Rattle.gx_model.specs.ActionAnswers.{answer_of_stmt}
use Rattle.gx_model.specs.Graphs.{Graph}
use Rattle.gx_plan.specs.Plans.{Planned, node_of, phase_at, phases_of, phases_of_stmt}
use Rattle.gx_plan.specs.Recipes.{recipe_of}
use Rattle.gx_plan.specs.StmtNodes.{statement_of}
use Rattle.gx_plan.specs.declared.kind.Kind.TheVariants as kind
use Rattle.gx_plan.specs.declared.recipe.Recipe.{Recipe}
use Rattle.gx_types_stmts.specs.declared.checked_stmt.CheckedStmt.{CheckedStmt}
use Rattle.gx_types_stmts.specs.declared.typed_stmt.TypedStmt.{TypedStmt}
use Rattle.gx_types_stmts.specs.declared.typed_stmt.TypedStmt.TheVariants as stmts
use Rattle.gx_exec_reads.specs.Actions.{IsAction}
use Rattle.gx_exec_reads.specs.ScriptNameLaws.{statement-found}

-- ---- which statements are actions

-- a statement that prints something is an action
pub action-prints : {Place : Type 0} (checked : List CheckedStmt) (values : List (Graph Place)) (st : TypedStmt) → IsSome (answer_of_stmt checked values st) → IsAction st
action-prints checked values (stmts.PrintVertices g) is = tt
action-prints checked values (stmts.PrintEdges g) is = tt
action-prints checked values (stmts.PrintTable t) is = tt
action-prints checked values (stmts.CountVertices g) is = tt
action-prints checked values (stmts.CountEdges g) is = tt
action-prints checked values (stmts.CountTable t) is = tt
action-prints checked values _ is = absurd cc

-- the same of statement a of a script
pub action-prints_at : {Place : Type 0} (script : List CheckedStmt) (values : List (Graph Place)) (a : ℕ) → 1 ≤ a → a ≤ length script
    → IsSome (option_and_then (answer_of_stmt script values) (slice_get (map (λ c. c.stmt) script) (a - 1))) → IsAction (statement_of script a)
action-prints_at script values a low high is =
    action-prints script values (statement_of script a)
    (subst (λ o. IsSome (option_and_then (answer_of_stmt script values) o)) (statement-found script a low high) is)

-- ---- what an action demands

-- what a node at which a recipe is found gives
abbrev pub phase_of_node : Option NodeId → List (List NodeId)
phase_of_node o = phase_at (cons_option o [])

phases-by : (p : Planned) (a : ℕ) (st : TypedStmt) → IsAction st → (r : Recipe) × (phases_of_stmt p a st ≡ phase_of_node (node_of p r))
phases-by p a (stmts.PrintVertices g) is = (recipe_of kind.Vertices g, refl)
phases-by p a (stmts.PrintEdges g) is = (recipe_of kind.Edges g, refl)
phases-by p a (stmts.PrintTable t) is = (recipe_of kind.Vertices t, refl)
phases-by p a (stmts.CountVertices g) is = (recipe_of kind.Vertices g, refl)
phases-by p a (stmts.CountEdges g) is = (recipe_of kind.Edges g, refl)
phases-by p a (stmts.CountTable t) is = (recipe_of kind.Vertices t, refl)
phases-by p a _ is = absurd is

-- one phase, of the node of one recipe; none if there is no node
pub phases-of_action : (script : List CheckedStmt) (p : Planned) (a : ℕ) → IsAction (statement_of script a) → (r : Recipe) × (phases_of script p a ≡ phase_of_node (node_of p r))
phases-of_action script p a is = phases-by p a (statement_of script a) is

-- the blocks of the nodes of these phases
abbrev pub blocks_of_phases : ℕ → List (List NodeId) → List BlockId
blocks_of_phases parts phases = flat_map (λ n. blocks_at n (range_with_len 0 parts)) (flat_map (λ ns. ns) phases)

pub blocks-of_node : (parts : ℕ) (n : NodeId) → blocks_of_phases parts (phase_of_node (Some n)) ≡ blocks_at n (range_with_len 0 parts)
blocks-of_node parts n = append-nil (blocks_at n (range_with_len 0 parts))

few-of_node : (parts : ℕ) (o : Option NodeId) → length (blocks_of_phases parts (phase_of_node o)) ≤ parts
few-of_node parts None = omega arith
few-of_node parts (Some n) =
    let long : length (blocks_of_phases parts (phase_of_node (Some n))) ≡ parts
    = ap length (blocks-of_node parts n) ∙ length-map (range_with_len 0 parts) (λ j. record { node = n; part = j }) ∙ length-range_with_len 0 parts in
    omega (arith, long)

-- an action has at most one block for each part
pub blocks-of_action_few : (script : List CheckedStmt) (p : Planned) (parts a : ℕ) (bs : List BlockId) → IsAction (statement_of script a) → parts ≤ 64
    → bs ≡ blocks_of_phases parts (phases_of script p a) → length bs ≤ 128
blocks-of_action_few script p parts a bs is few same =
    let one = phases-of_action script p a is in
    let at : length bs ≡ length (blocks_of_phases parts (phase_of_node (node_of p one.0))) = ap length (same ∙ ap (blocks_of_phases parts) one.1) in
    omega (arith, few, at, few-of_node parts (node_of p one.0))
