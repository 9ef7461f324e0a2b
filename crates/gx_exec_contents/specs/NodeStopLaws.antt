-- The least stop of the blocks of a node, if no block before it is stopped.
use Rattle.std.proofs.Common.{◌≡◌, ℕ, zero, suc, ◌+◌, ◌<◌, ◌≤◌, ◌==◌, Bool, true, false, List, [], ◌∷◌, Option, Some, None, length, refl, sym, ap, ap₂, ◌∙◌, subst, arith}
use Rattle.std.proofs.lemmas.Bool.Decides.{nat_tests}
use Rattle.std.specs.List.{Contains, range_with_len}
use Rattle.std.specs.Option.{option_or}
use Rattle.gx_lineage.specs.Lineage.{IsBlock, block_inputs}
use Rattle.gx_lineage.specs.declared.block_id.BlockId.{BlockId}
use Rattle.gx_plan.specs.Plans.{Planned, recipe_at}
use Rattle.gx_exec_contents.specs.BlockContents.{fault_by, recipe_of_block, stop_of}
use Rattle.gx_exec_contents.specs.PartContents.{BlockStop, first_given}
use Rattle.gx_exec_contents.specs.PhaseFaults.{AreQuietBelow, QuietNodesGoOn, StopsAreFaults, least_over, lesser_of}
use Rattle.gx_exec_contents.specs.Worlds.{IsSetting, World}
use Rattle.gx_exec_contents.specs.PartFaultLaws.{least-are_faults}
use Rattle.gx_exec_contents.specs.StoppedBlockLaws.{stop_of-is}

given-none : (f : BlockId → Option BlockStop) (bs : List BlockId) → ((b : BlockId) → Contains bs b → f b ≡ None) → first_given f bs ≡ None
given-none f [] none = refl
given-none f (b ∷ bs) none =
    let within : 0 < length (b ∷ bs) = omega arith in
    ap₂ (λ u v. option_or u v) (none b (0, within, refl))
    (given-none f bs (λ c is_in. (let below : suc is_in.0 < length (b ∷ bs) = omega (arith, is_in.1) in none c (suc is_in.0, below, is_in.2))))

least-same : (f g : ℕ → Option BlockStop) (a n : ℕ) → ((j : ℕ) → a ≤ j → j < a + n → f j ≡ g j) → least_over f (range_with_len a n) ≡ least_over g (range_with_len a n)
least-same f g a zero same = refl
least-same f g a (suc n) same =
    ap₂ lesser_of (same a (omega arith) (omega arith)) (least-same f g (a + 1) n (λ j from below. same j (omega (arith, from)) (omega (arith, below))))

none_of_lesser : (u v : Option BlockStop) → lesser_of u v ≡ None → (u ≡ None) × (v ≡ None)
none_of_lesser None v e = (refl, e)
none_of_lesser (Some s) v e = cc

none-each : (f : ℕ → Option BlockStop) (a n : ℕ) → least_over f (range_with_len a n) ≡ None → (j : ℕ) → a ≤ j → j < a + n → f j ≡ None
none-each f a zero none j from below = absurd (omega (arith, from, below))
none-each f a (suc n) none j from below =
    let both = none_of_lesser (f a) (least_over f (range_with_len (a + 1) n)) none in
    by (a == j) refl both.0
    (λ apart. (let later : a + 1 ≤ j = grind (arith, nat_tests) in none-each f (a + 1) n both.1 j later (omega (arith, below))))
  where
    by : (b : Bool) → (a == j) ≡ b → f a ≡ None → ((a == j) ≡ false → f j ≡ None) → f j ≡ None
    by true e here more = let same : a ≡ j = grind (arith, nat_tests) in subst (λ i. f i ≡ None) same here
    by false e here more = more e

module _ (w : World) (p : Planned) (setting : IsSetting w p) where
  -- a block whose inputs are not stopped is stopped by its own fault
  stop-by_fault : (b : BlockId) → IsBlock p.lineage b → AreQuietBelow w p b.node.0 → stop_of w p b ≡ fault_by w (recipe_of_block p b) b.part
  stop-by_fault b here quiet =
      stop_of-is w p setting.sound b here
      ∙ ap (λ u. option_or u (fault_by w (recipe_of_block p b) b.part))
      (given-none (stop_of w p) (block_inputs p.lineage b) (λ c is_in. quiet c (setting.sound.blocks b c here is_in) (setting.sound.earlier b c is_in)))

-- if no block before it is stopped, the least stop of the blocks of a node is the fault of its statement
pub stops-are_faults : StopsAreFaults
stops-are_faults w p setting n within quiet =
    least-same (λ j. stop_of w p (record { node = n; part = j })) (fault_by w (recipe_at p.recipes n.0)) 0 w.parts
    (λ j from below. (let small : j < w.parts = omega (arith, below) in
    stop-by_fault w p setting (record { node = n; part = j }) (record { node = within; part = subst (λ k. j < k) (sym setting.parts) small }) quiet))
    ∙ least-are_faults w setting.world (recipe_at p.recipes n.0)

-- and if there is none, no block of the node is stopped
pub quiet-nodes_go_on : QuietNodesGoOn
quiet-nodes_go_on w p setting n quiet none b here below = by (b.node.0 == n.0) refl
  where
    by : (t : Bool) → (b.node.0 == n.0) ≡ t → stop_of w p b ≡ None
    by true e =
        let number : n.0 ≡ b.node.0 = grind (arith, nat_tests) in
        let small : b.part < w.parts = subst (λ k. b.part < k) setting.parts here.part in
        subst (λ m. stop_of w p (record { node = record { 0 = m }; part = b.part }) ≡ None) number
        (none-each (λ j. stop_of w p (record { node = n; part = j })) 0 w.parts none b.part (omega arith) (omega (arith, small)))
    by false e = quiet b here (let early : b.node.0 < n.0 = grind (arith, nat_tests, below) in early)
