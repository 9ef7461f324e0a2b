-- The content of each block of a planned script.
use Rattle.std.specs.Prelude.{ℕ, Option, None}
use Rattle.std.specs.Option.{option_or}
use Rattle.gx_exec_contents.specs.Deep.{deep_at}
use Rattle.gx_exec_contents.specs.PartContents.{BlockStop, Content, fault_kind, first_given, held_kind, part_of_value, stop_or}
use Rattle.gx_exec_contents.specs.Worlds.{World}
use Rattle.gx_lineage.specs.Lineage.{block_inputs}
use Rattle.gx_lineage.specs.declared.block_id.BlockId.{BlockId}
use Rattle.gx_plan.specs.Plans.{Planned, recipe_at}
use Rattle.gx_plan.specs.StmtNodes.{statement_of}
use Rattle.gx_plan.specs.declared.recipe.Recipe.{Recipe}

-- what part i of a node of this recipe holds, if nothing is at fault
abbrev pub held_by : World → Recipe → ℕ → Content
held_by w r i = held_kind w r.kind r i

-- the fault of part i of a node of this recipe: the least of its statement on that part
abbrev pub fault_by : World → Recipe → ℕ → Option BlockStop
fault_by w r i =
    fault_kind w r.kind r (part_of_value r.kind w.parts i) (statement_of w.script r.statement)

abbrev pub recipe_of_block : Planned → BlockId → Recipe
recipe_of_block p b = recipe_at p.recipes b.node.0

-- the first stop of the inputs of a block, by the stops of blocks, or else the block's own fault
abbrev pub stop_step : World → Planned → (BlockId → Option BlockStop) → BlockId → Option BlockStop
stop_step w p stops b = option_or (first_given stops (block_inputs p.lineage b)) (fault_by w (recipe_of_block p b) b.part)

-- the stop of a block, if it is stopped
unfoldable pub stop_of : World → Planned → BlockId → Option BlockStop
stop_of w p b = deep_at None (stop_step w p) (λ c. c.node.0) b

-- what a block holds
abbrev pub content_of : World → Planned → BlockId → Content
content_of w p b = stop_or (stop_of w p b) (held_by w (recipe_of_block p b) b.part)
