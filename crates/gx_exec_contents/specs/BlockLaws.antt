-- Laws of contents.
use Rattle.std.specs.Prelude.{◌≡◌, map}
use Rattle.gx_exec_contents.specs.BlockContents.{content_of, recipe_of_block}
use Rattle.gx_exec_contents.specs.MadeBlocks.{made_by}
use Rattle.gx_exec_contents.specs.Worlds.{IsSetting, World}
use Rattle.gx_lineage.specs.Lineage.{IsBlock, block_inputs}
use Rattle.gx_lineage.specs.declared.block_id.BlockId.{BlockId}
use Rattle.gx_plan.specs.PlanInvariant.{IsFrontOf}
use Rattle.gx_plan.specs.Plans.{Planned}

-- what is made of the contents of a block's inputs is the content of the block
abbrev pub ContentsAreMade : Type 0
ContentsAreMade = (w : World) (p : Planned) → IsSetting w p → (b : BlockId) → IsBlock p.lineage b
    → made_by w (recipe_of_block p b) b.part (map (content_of w p) (block_inputs p.lineage b)) ≡ content_of w p b

-- a block has the same content in each plan that begins with its plan
abbrev pub ContentsAreKept : Type 0
ContentsAreKept = (w : World) (p q : Planned) → IsSetting w p → IsFrontOf p q → (b : BlockId) → IsBlock p.lineage b → content_of w q b ≡ content_of w p b
