-- The stop of a block is by those of its inputs.
use Rattle.std.proofs.Common.{◌≡◌, ℕ, zero, suc, ◌<◌, List, [], ◌∷◌, Option, None, refl, ap, ap₂, arith, length}
use Rattle.std.specs.List.{Contains}
use Rattle.std.specs.Option.{option_or}
use Rattle.gx_lineage.specs.Lineage.{IsBlock, IsSound, block_inputs}
use Rattle.gx_lineage.specs.declared.block_id.BlockId.{BlockId}
use Rattle.gx_plan.specs.Plans.{Planned}
use Rattle.gx_exec_contents.specs.BlockContents.{fault_by, recipe_of_block, stop_of, stop_step}
use Rattle.gx_exec_contents.specs.Deep.{StepAlike, deep, deep_at}
use Rattle.gx_exec_contents.specs.PartContents.{BlockStop, first_given}
use Rattle.gx_exec_contents.specs.Worlds.{World}

module _ {K A : Type 0} (none : A) (step other : (K → A) → K → A) (rank : K → ℕ) (Here : K → Type 0) (alike : StepAlike step other rank Here) where
  -- more steps than the rank asks change nothing
  deep-same : (n m : ℕ) (k : K) → Here k → rank k < n → rank k < m → deep none step n k ≡ deep none other m k
  deep-same zero m k here a b = absurd (omega arith)
  deep-same (suc n) zero k here a b = absurd (omega arith)
  deep-same (suc n) (suc m) k here a b =
      alike.alike (deep none step n) (deep none other m) k here (λ j there lower. deep-same n m j there (omega arith) (omega arith))

  pub deep_at-same : (k : K) → Here k → deep_at none step rank k ≡ deep_at none other rank k
  deep_at-same k here = deep-same (suc (rank k)) (suc (rank k)) k here (omega arith) (omega arith)

pub deep_at-is : {K A : Type 0} (none : A) (step : (K → A) → K → A) (rank : K → ℕ) (Here : K → Type 0) → StepAlike step step rank Here
    → (k : K) → Here k → deep_at none step rank k ≡ step (deep_at none step rank) k
deep_at-is none step rank Here alike k here =
    alike.alike (deep none step (rank k)) (deep_at none step rank) k here
    (λ j there lower. deep-same none step step rank Here alike (rank k) (suc (rank j)) j there lower (omega arith))

-- ---- stops

pub given-same : (f g : BlockId → Option BlockStop) (bs : List BlockId) → ((b : BlockId) → Contains bs b → f b ≡ g b) → first_given f bs ≡ first_given g bs
given-same f g [] same = refl
given-same f g (b ∷ bs) same =
    let within : 0 < length (b ∷ bs) = omega arith in
    ap₂ (λ u v. option_or u v) (same b (0, within, refl))
    (given-same f g bs (λ c is_in. (let below : suc is_in.0 < length (b ∷ bs) = omega (arith, is_in.1) in same c (suc is_in.0, below, is_in.2))))

stop_step-alike : (w : World) (p : Planned) → IsSound p.lineage → StepAlike (stop_step w p) (stop_step w p) (λ c. c.node.0) (IsBlock p.lineage)
stop_step-alike w p sound = record {
  alike = λ f g b here same. ap (λ u. option_or u (fault_by w (recipe_of_block p b) b.part))
      (given-same f g (block_inputs p.lineage b) (λ c is_in. same c (sound.blocks b c here is_in) (sound.earlier b c is_in)));
}

-- a block is stopped by the first stop of its inputs, or else by its own fault
pub stop_of-is : (w : World) (p : Planned) → IsSound p.lineage → (b : BlockId) → IsBlock p.lineage b → stop_of w p b ≡ stop_step w p (stop_of w p) b
unfolding stop_of
stop_of-is w p sound b here =
    deep_at-is None (stop_step w p) (λ c. c.node.0) (IsBlock p.lineage) (stop_step-alike w p sound) b here
