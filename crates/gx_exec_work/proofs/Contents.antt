-- What is made of contents is a content.
use Rattle.std.proofs.Common.{◌≡◌, List, [], ◌∷◌, map, Result, Ok, Err, IfOk, refl, ap, ap₂, ◌∙◌}
use Rattle.std.specs.List.{AllZip}
use Rattle.gx_exec_contents.specs.BlockContents.{content_of, recipe_of_block}
use Rattle.gx_exec_contents.specs.MadeBlocks.{made_by}
use Rattle.gx_exec_contents.specs.Worlds.{IsSetting}
use Rattle.gx_exec_contents.specs.MadeContentLaws.{contents-made}
use Rattle.gx_exec_work.specs.Works.{IsContentOf, PlannedWorld, shown, shown_blocks}
use Rattle.gx_exec_work.specs.declared.block.Block.{Block}
use Rattle.gx_lineage.specs.Lineage.{IsBlock, block_inputs}
use Rattle.gx_lineage.specs.declared.block_id.BlockId.{BlockId}

shown-contents : (e : PlannedWorld) (bs : List BlockId) (ts : List Block) → AllZip (IsContentOf e) bs ts → shown_blocks ts ≡ map (content_of e.world e.planned) bs
shown-contents e [] [] are = refl
shown-contents e [] (t ∷ ts) are = absurd are
shown-contents e (b ∷ bs) [] are = absurd are
shown-contents e (b ∷ bs) (t ∷ ts) are = ap₂ (λ c cs. c ∷ cs) are.0.content (shown-contents e bs ts are.1)

pub made-is_content : {E : Type 0} (e : PlannedWorld) → IsSetting e.world e.planned → (b : BlockId) (ts : List Block) (r : Result Block E)
    → IfOk r (λ t. shown t ≡ made_by e.world (recipe_of_block e.planned b) b.part (shown_blocks ts))
    → IsBlock e.planned.lineage b → AllZip (IsContentOf e) (block_inputs e.planned.lineage b) ts → IfOk r (IsContentOf e b)
made-is_content e setting b ts (Err stop) made here are = tt
made-is_content e setting b ts (Ok t) made here are = record {
  block = here;
  content =
      made
      ∙ ap (made_by e.world (recipe_of_block e.planned b) b.part) (shown-contents e (block_inputs e.planned.lineage b) ts are)
      ∙ contents-made e.world e.planned setting b here;
}
