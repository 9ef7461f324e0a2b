-- Contents of its inputs may be the inputs of a block.
use Rattle.std.proofs.Common.{ℕ, Option, None, Some, List, [], ◌∷◌, sym, subst}
use Rattle.std.specs.List.{AllZip}
use Rattle.gx_exec_contents.specs.BlockContents.{recipe_of_block, stop_of}
use Rattle.gx_exec_contents.specs.PartContents.{BlockStop, held_kind, stop_or}
use Rattle.gx_exec_contents.specs.Worlds.{World}
use Rattle.gx_exec_work.specs.Works.{FitsBlock, IsContentOf, IsOfKind, PlannedWorld, shown}
use Rattle.gx_exec_work.specs.declared.block.Block.{Block}
use Rattle.gx_lineage.specs.Lineage.{IsBlock, block_inputs}
use Rattle.gx_lineage.specs.declared.block_id.BlockId.{BlockId}
use Rattle.gx_plan.specs.declared.kind.Kind.{Kind}
use Rattle.gx_plan.specs.declared.kind.Kind.TheVariants as kind
use Rattle.gx_plan.specs.declared.recipe.Recipe.{Recipe}

-- a content is of the kind of its node, or stopped
kind-of_content : (w : World) (k : Kind) (r : Recipe) (i : ℕ) (stop : Option BlockStop)
    → IsOfKind k (stop_or stop (held_kind w k r i))
kind-of_content w kind.Vertices r i None = tt
kind-of_content w kind.Edges r i None = tt
kind-of_content w kind.Vertices r i (Some s) = tt
kind-of_content w kind.Edges r i (Some s) = tt

contents-fit : (e : PlannedWorld) (bs : List BlockId) (ts : List Block) → AllZip (IsContentOf e) bs ts
    → AllZip (λ c t. IsOfKind (recipe_of_block e.planned c).kind (shown t)) bs ts
contents-fit e [] [] h = tt
contents-fit e [] (t ∷ ts) h = h
contents-fit e (b ∷ bs) [] h = h
contents-fit e (b ∷ bs) (t ∷ ts) h =
    let r = recipe_of_block e.planned b in (
      subst (IsOfKind r.kind) (sym h.0.content)
          (kind-of_content e.world r.kind r b.part (stop_of e.world e.planned b)),
      contents-fit e bs ts h.1,
    )

pub contents_of_inputs-fit : (e : PlannedWorld) (b : BlockId) (ts : List Block) → IsBlock e.planned.lineage b
    → AllZip (IsContentOf e) (block_inputs e.planned.lineage b) ts → FitsBlock e b ts
contents_of_inputs-fit e b ts block h = record {
  block = block;
  inputs = λ setting. contents-fit e (block_inputs e.planned.lineage b) ts h;
}
