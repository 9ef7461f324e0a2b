-- The rows of blocks, one block after another.
use Rattle.std.proofs.Common.{◌≡◌, ℕ, suc, ◌+◌, ◌<◌, List, [], ◌∷◌, ◌++◌, Option, None, Some, append_assoc, drop, flat_map, get_or, length, sym, ap, ◌∙◌, subst, arith}
use Rattle.std.specs.List.{cons_option, filter_map}
use Rattle.std.proofs.Math.Seq.{drop-cons}
use Rattle.gx_cluster.specs.States.{held_value}
use Rattle.gx_cluster_state.specs.declared.held.Held.{Held}
use Rattle.gx_exec_contents.specs.PartContents.{Content}
use Rattle.gx_exec_work.specs.Works.{shown, shown_blocks}
use Rattle.gx_exec_work.specs.declared.block.Block.{Block}
use Rattle.gx_lineage.specs.declared.block_id.BlockId.{BlockId}
use Rattle.gx_exec_reads.specs.HeldAnswers.{held_contents}

-- given the rows in a content, and those of a block that is maybe held
module _ {X : Type 0} (rows_in : Content → List X) (rows_of : Option Block → List X) (none : rows_of None ≡ []) (some : (t : Block) → rows_of (Some t) ≡ rows_in (shown t))
    (held : List (BlockId × Held Block)) where
  abbrev rows_at : List BlockId → List X
  rows_at bs = flat_map rows_in (held_contents held bs)

  rows-first : (o : Option Block) (blocks : List Block) → flat_map rows_in (shown_blocks (cons_option o blocks)) ≡ rows_of o ++ flat_map rows_in (shown_blocks blocks)
  rows-first None blocks = sym (ap (λ rows. rows ++ flat_map rows_in (shown_blocks blocks)) none)
  rows-first (Some t) blocks = sym (ap (λ rows. rows ++ flat_map rows_in (shown_blocks blocks)) (some t))

  -- with the rows of the block at position i, those so far and those of the blocks after it are all
  pub rows-moved : (made new whole : List X) (bs : List BlockId) (i : ℕ) (d : BlockId) → i < length bs → new ≡ made ++ rows_of (held_value held (get_or bs i d)) → made ++ rows_at (drop i bs) ≡ whole
      → new ++ rows_at (drop (i + 1) bs) ≡ whole
  rows-moved made new whole bs i d within pushed so_far =
      let b : BlockId = get_or bs i d in
      let next : suc i ≡ i + 1 = omega arith in
      let split : drop i bs ≡ b ∷ drop (i + 1) bs = subst (λ k. drop i bs ≡ b ∷ drop k bs) next (drop-cons bs i d within) in
      ap (λ rows. rows ++ rows_at (drop (i + 1) bs)) pushed
      ∙ append_assoc made (rows_of (held_value held b)) (rows_at (drop (i + 1) bs))
      ∙ ap (λ rows. made ++ rows) (sym (rows-first (held_value held b) (filter_map (held_value held) (drop (i + 1) bs))))
      ∙ ap (λ cs. made ++ rows_at cs) (sym split)
      ∙ so_far
