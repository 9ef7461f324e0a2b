-- Contents of blocks stay as they are when the plan grows.
use Rattle.std.proofs.Common.{◌≡◌, ℕ, zero, suc, ◌<◌, List, [], ◌∷◌, ◌++◌, length, None, unwrap_or, option_map, refl, sym, ap, ap₂, ◌∙◌, subst, arith}
use Rattle.std.specs.List.{flat_map, slice_get}
use Rattle.std.specs.Option.{option_or}
use Rattle.std.proofs.lemmas.List.{get_or_append_left}
use Rattle.gx_lineage.specs.Lineage.{IsBlock, block_inputs, blocks_of_input}
use Rattle.gx_lineage.specs.declared.block_id.BlockId.{BlockId}
use Rattle.gx_plan.specs.PlanInvariant.{IsFrontOf}
use Rattle.gx_plan.specs.Plans.{Planned}
use Rattle.gx_exec_contents.specs.BlockContents.{fault_by, held_by, recipe_of_block, stop_of, stop_step}
use Rattle.gx_exec_contents.specs.BlockLaws.{ContentsAreKept}
use Rattle.gx_exec_contents.specs.Deep.{StepAlike}
use Rattle.gx_exec_contents.specs.PartContents.{first_given, stop_or}
use Rattle.gx_exec_contents.specs.Worlds.{IsSetting, World}
use Rattle.gx_exec_contents.specs.StoppedBlockLaws.{deep_at-same, given-same}

slice_get-front : {X : Type 0} (xs ys : List X) (i : ℕ) → i < length xs → slice_get (xs ++ ys) i ≡ slice_get xs i
slice_get-front [] ys i within = absurd (omega arith)
slice_get-front (x ∷ xs) ys zero within = refl
slice_get-front (x ∷ xs) ys (suc i) within = slice_get-front xs ys i (omega arith)

module _ (w : World) (p q : Planned) (setting : IsSetting w p) (front : IsFrontOf p q) where
  kept-recipe : (b : BlockId) → IsBlock p.lineage b → recipe_of_block q b ≡ recipe_of_block p b
  kept-recipe b here =
      ap (λ rs. recipe_of_block (record q { recipes = rs }) b) front.recipes
      ∙ get_or_append_left p.recipes front.more_recipes _ b.node.0 (subst (λ n. b.node.0 < n) (sym setting.plan.recipes) here.node)

  kept-inputs : (b : BlockId) → IsBlock p.lineage b → block_inputs q.lineage b ≡ block_inputs p.lineage b
  kept-inputs b here =
      ap₂ (λ n nodes. flat_map (blocks_of_input n b.part) (unwrap_or (option_map (λ m. m.inputs) (slice_get nodes b.node.0)) [])) front.parts front.nodes
      ∙ ap (λ found. flat_map (blocks_of_input p.lineage.parts b.part) (unwrap_or (option_map (λ m. m.inputs) found) [])) (slice_get-front p.lineage.nodes front.more_nodes b.node.0 here.node)

  kept-steps : StepAlike (stop_step w p) (stop_step w q) (λ c. c.node.0) (IsBlock p.lineage)
  kept-steps = record {
    alike = λ f g b here same.
        ap (λ u. option_or u (fault_by w (recipe_of_block p b) b.part)) (given-same f g (block_inputs p.lineage b) (λ c is_in. same c (setting.sound.blocks b c here is_in) (setting.sound.earlier b c is_in)))
        ∙ ap₂ (λ bs r. option_or (first_given g bs) (fault_by w r b.part)) (sym (kept-inputs b here)) (sym (kept-recipe b here));
  }

  kept-stop : (b : BlockId) → IsBlock p.lineage b → stop_of w p b ≡ stop_of w q b
  unfolding stop_of
  kept-stop b here = deep_at-same None (stop_step w p) (stop_step w q) (λ c. c.node.0) (IsBlock p.lineage) kept-steps b here

-- a block has the same content in each plan that begins with its plan
pub contents-kept : ContentsAreKept
contents-kept w p q setting front b here =
    ap₂ (λ u r. stop_or u (held_by w r b.part)) (sym (kept-stop w p q setting front b here)) (kept-recipe w p q setting front b here)
