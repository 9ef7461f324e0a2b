-- The fault of a phase: the least of the faults of its parts.
use Rattle.std.specs.Prelude.{◌≡◌, ℕ, ◌+◌, ◌<◌, pos, length, if◌then◌else◌, List, [], ◌∷◌, Option, None, Some, option_map, refl}
use Rattle.std.specs.List.{range_with_len}
use Rattle.std.specs.Ordering.{is_gt}
use Rattle.std.specs.declared.cmp.Ordering.{Ordering}
use Rattle.std.specs.declared.cmp.Ordering.TheVariants.{Less, Greater}
use Rattle.gx_index.specs.Ids.{id_cmp}
use Rattle.gx_lineage.specs.Lineage.{IsBlock}
use Rattle.gx_lineage.specs.declared.block_id.BlockId.{BlockId}
use Rattle.gx_lineage.specs.declared.node_id.NodeId.{NodeId}
use Rattle.gx_plan.specs.Plans.{Planned, recipe_at}
use Rattle.gx_model.specs.StmtFaults.{fault_of_stmt}
use Rattle.gx_plan.specs.Recipes.{recipe_of}
use Rattle.gx_plan.specs.StmtNodes.{own_kinds, statement_of}
use Rattle.gx_plan.specs.declared.recipe.Recipe.{Recipe}
use Rattle.gx_rows.specs.Order.{edge_cmp}
use Rattle.gx_rows.specs.declared.cause.Cause.TheVariants as cause
use Rattle.gx_rows.specs.declared.fault.Fault.{Fault}
use Rattle.gx_rows.specs.declared.row_key.RowKey.{RowKey}
use Rattle.gx_rows.specs.declared.row_key.RowKey.TheVariants.{Vertex, Edge}
use Rattle.gx_types_stmts.specs.declared.typed_stmt.TypedStmt.{TypedStmt}
use Rattle.gx_exec_contents.specs.BlockContents.{fault_by, stop_of}
use Rattle.gx_exec_contents.specs.PartContents.{BlockStop, fault_kind, first_given}
use Rattle.gx_exec_contents.specs.Worlds.{IsSetting, IsWorld, World, placed_values}

-- vertices by their identifiers, edges in edge order, and vertices before edges
abbrev pub key_cmp : RowKey → RowKey → Ordering
key_cmp (Vertex a) (Vertex b) = id_cmp a b
key_cmp (Vertex a) (Edge src dst row) = Less
key_cmp (Edge src dst row) (Vertex b) = Greater
key_cmp (Edge src dst row) (Edge other_src other_dst other_row) = edge_cmp (src, dst, row) (other_src, other_dst, other_row)

-- the one of the lesser key
abbrev pub lesser_stop : BlockStop → Option BlockStop → BlockStop
lesser_stop s None = s
lesser_stop s (Some t) = if is_gt (key_cmp s.key t.key) then t else s

abbrev pub lesser_of : Option BlockStop → Option BlockStop → Option BlockStop
lesser_of None other = other
lesser_of (Some s) other = Some (lesser_stop s other)

-- the one of the least key that f gives at these parts
abbrev pub least_over : (ℕ → Option BlockStop) → List ℕ → Option BlockStop
least_over f [] = None
least_over f (j ∷ js) = lesser_of (f j) (least_over f js)

-- the fault of a node's statement, on all parts
abbrev pub fault_in : World → Recipe → Option BlockStop
fault_in w r = fault_kind w r.kind r (λ g. g) (statement_of w.script r.statement)

-- a stop, as the fault of statement s
abbrev pub fault_of_stop : ℕ → BlockStop → Fault
fault_of_stop s stop = record { statement = s; key = stop.key; expr = stop.expr; cause = stop.cause }

-- the least fault of the parts of a node is the fault of its statement
abbrev pub LeastAreFaults : Type 0
LeastAreFaults = (w : World) → IsWorld w → (r : Recipe) → least_over (fault_by w r) (range_with_len 0 w.parts) ≡ fault_in w r

-- the first fault of a statement's own nodes is the model's fault of the statement
abbrev pub OwnFaultsAreOfModel : Type 0
OwnFaultsAreOfModel = (w : World) (s : ℕ) (st : TypedStmt)
    → first_given (λ k. option_map (fault_of_stop s) (fault_kind w k (recipe_of k s) (λ g. g) st))
    (own_kinds st)
    ≡ fault_of_stmt (placed_values w) s st

-- ---- by the blocks of a node

-- no block of the first n nodes is stopped
abbrev pub AreQuietBelow : World → Planned → ℕ → Type 0
AreQuietBelow w p n = (b : BlockId) → IsBlock p.lineage b → b.node.0 < n → stop_of w p b ≡ None

-- the least stop of the blocks of a node
abbrev pub least_stop : World → Planned → NodeId → Option BlockStop
least_stop w p n = least_over (λ j. stop_of w p (record { node = n; part = j })) (range_with_len 0 w.parts)

-- if no block before it is stopped, the least stop of the blocks of a node is the fault of its statement
abbrev pub StopsAreFaults : Type 0
StopsAreFaults = (w : World) (p : Planned) → IsSetting w p → (n : NodeId) → n.0 < length p.lineage.nodes → AreQuietBelow w p n.0
    → least_stop w p n ≡ fault_in w (recipe_at p.recipes n.0)

-- and if there is none, no block of the node is stopped
abbrev pub QuietNodesGoOn : Type 0
QuietNodesGoOn = (w : World) (p : Planned) → IsSetting w p → (n : NodeId) → AreQuietBelow w p n.0 → least_stop w p n ≡ None → AreQuietBelow w p (n.0 + 1)

-- vertex 2 is less than 3
least_over-example : least_over (λ j. Some (record { key = Vertex (record { 0 = pos j }); expr = 0; cause = cause.Overflow })) (3 ∷ 2 ∷ [])
    ≡ Some (record { key = Vertex (record { 0 = pos 2 }); expr = 0; cause = cause.Overflow })
least_over-example = refl
