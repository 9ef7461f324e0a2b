-- Plans of which no block is stopped.
use Rattle.std.proofs.Common.{◌≡◌, ◌⊎◌, ℕ, zero, suc, ◌+◌, ◌-◌, ◌<◌, ◌≤◌, List, [], ◌∷◌, inl, inr, Option, Some, None, length, refl, sym, ap, ◌∙◌, subst, arith}
use Rattle.std.specs.List.{AllByRecursion, range_with_len}
use Rattle.gx_lineage.specs.Lineage.{IsBlock}
use Rattle.gx_lineage.specs.declared.block_id.BlockId.{BlockId}
use Rattle.gx_lineage.specs.declared.node_id.NodeId.{NodeId}
use Rattle.gx_plan.specs.PlanInvariant.{IsFrontOf}
use Rattle.gx_plan.specs.Plans.{Planned, recipe_at}
use Rattle.gx_plan.specs.declared.kind.Kind.{Kind}
use Rattle.gx_plan.specs.declared.kind.Kind.TheVariants as kind
use Rattle.gx_plan.specs.declared.recipe.Recipe.{Recipe}
use Rattle.gx_exec_contents.specs.BlockContents.{content_of, recipe_of_block, stop_of}
use Rattle.gx_exec_contents.specs.PartContents.{BlockStop, held_kind, stop_in, stop_or}
use Rattle.gx_exec_contents.specs.PhaseFaults.{AreQuietBelow, fault_in, least_over, least_stop}
use Rattle.gx_exec_contents.specs.Worlds.{IsSetting, World}
use Rattle.gx_exec_contents.specs.GrownPlanLaws.{contents-kept}
use Rattle.gx_exec_contents.specs.NodeStopLaws.{quiet-nodes_go_on, stops-are_faults}
use Rattle.gx_exec_work.specs.Works.{PlannedWorld}
use Rattle.gx_exec.specs.Phases.{AreFaultless, AreInOrder, AreNext, AreUnstopped, MayJudge}

-- ---- the stop of a block is seen in its content

stop_in-kind : (w : World) (k : Kind) (r : Recipe) (i : ℕ) (stop : Option BlockStop) → stop_in (stop_or stop (held_kind w k r i)) ≡ stop
stop_in-kind w kind.Vertices r i None = refl
stop_in-kind w kind.Edges r i None = refl
stop_in-kind w k r i (Some s) = refl

pub stop_in-content : (w : World) (p : Planned) (b : BlockId) → stop_in (content_of w p b) ≡ stop_of w p b
stop_in-content w p b =
    let r = recipe_of_block p b in
    stop_in-kind w r.kind r b.part (stop_of w p b)

-- blocks that are not stopped are not stopped in a larger plan
pub quiet-kept : (w : World) (p q : Planned) → IsSetting w p → IsFrontOf p q → AreQuietBelow w p (length p.lineage.nodes) → AreQuietBelow w q (length p.lineage.nodes)
quiet-kept w p q setting front quiet b here below =
    let before : IsBlock p.lineage b = record { node = below; part = subst (λ n. b.part < n) front.parts here.part } in
    sym (stop_in-content w q b) ∙ ap stop_in (contents-kept w p q setting front b before) ∙ stop_in-content w p b ∙ quiet b before below

pub quiet-less : (w : World) (p : Planned) (m n : ℕ) → m ≤ n → AreQuietBelow w p n → AreQuietBelow w p m
quiet-less w p m n less quiet b here below = quiet b here (omega (arith, below, less))

-- ---- nodes in a quiet plan have no fault

least-none : (f : ℕ → Option BlockStop) (a n : ℕ) → ((j : ℕ) → j < a + n → f j ≡ None) → least_over f (range_with_len a n) ≡ None
least-none f a zero none = refl
least-none f a (suc n) none = rw (none a (omega arith)) (least-none f (a + 1) n (λ j below. none j (omega (arith, below))))

pub quiet-fault : (w : World) (p : Planned) → IsSetting w p → AreQuietBelow w p (length p.lineage.nodes) → (n : NodeId) → n.0 < length p.lineage.nodes → fault_in w (recipe_at p.recipes n.0) ≡ None
quiet-fault w p setting quiet n within =
    sym (stops-are_faults w p setting n within (quiet-less w p n.0 (length p.lineage.nodes) (omega (arith, within)) quiet))
    ∙ least-none (λ j. stop_of w p (record { node = n; part = j })) 0 w.parts
    (λ j below. quiet (record { node = n; part = j }) (record { node = within; part = subst (λ k. j < k) (sym setting.parts) (omega (arith, below)) }) within)

-- ---- phases in order

order-within : (w : World) (p : Planned) (n : ℕ) (phases : List (List NodeId)) → AreInOrder w p n phases → n ≤ length p.lineage.nodes
order-within w p n [] order = omega (arith, order.order, order.within)
order-within w p n (ns ∷ phases) order = omega (arith, order.1.0.order, order.1.0.within)

-- nodes that have no fault of their own are not stopped, if none before them is
module _ (w : World) (p : Planned) (n m : ℕ) (setting : IsSetting w p) (gap : AreFaultless w p n m) (quiet : AreQuietBelow w p n) where
  gap-quiet : (count : ℕ) → n + count ≤ m → AreQuietBelow w p (n + count)
  gap-quiet zero within = subst (AreQuietBelow w p) (let same : n ≡ n + 0 = omega arith in same) quiet
  gap-quiet (suc count) within =
      let here : n + count < length p.lineage.nodes = omega (arith, within, gap.within) in
      let below : AreQuietBelow w p (n + count) = gap-quiet count (omega (arith, within)) in
      let none : least_stop w p (record { 0 = n + count }) ≡ None =
      stops-are_faults w p setting (record { 0 = n + count }) here below ∙ gap.none (n + count) (omega arith) (omega (arith, within)) in
      subst (AreQuietBelow w p) (let same : n + count + 1 ≡ n + suc count = omega arith in same) (quiet-nodes_go_on w p setting (record { 0 = n + count }) below none)

  quiet-gap : AreQuietBelow w p m
  quiet-gap = subst (AreQuietBelow w p) (let same : n + (m - n) ≡ m = omega (arith, gap.order) in same) (gap-quiet (m - n) (omega (arith, gap.order)))

each-judged : (e : PlannedWorld) (at : ℕ) (ns : List NodeId) → at ≤ length e.planned.lineage.nodes → AreQuietBelow e.world e.planned at → AllByRecursion (λ m. m.0 < at) ns → MayJudge e ns
each-judged e at [] within quiet below = tt
each-judged e at (n ∷ ns) within quiet below = (
  (omega (arith, within, below.0), quiet-less e.world e.planned n.0 at (omega (arith, below.0)) quiet),
  each-judged e at ns within quiet below.1,
)

pub next-judged : (e : PlannedWorld) (ns : List NodeId) (rest : List (List NodeId)) → IsSetting e.world e.planned → AreNext e (ns ∷ rest) → MayJudge e ns
next-judged e ns rest setting next = by next.order.1.1
  where
    m : ℕ
    m = next.order.0

    quiet : AreQuietBelow e.world e.planned m
    quiet = quiet-gap e.world e.planned next.at m setting next.order.1.0 next.quiet

    by : (AllByRecursion (λ k. k.0 < m) ns × AreInOrder e.world e.planned m rest) ⊎ ((ns ≡ record { 0 = m } ∷ []) × AreInOrder e.world e.planned (m + 1) rest) → MayJudge e ns
    by (inl order) = each-judged e m ns next.order.1.0.within quiet order.0
    by (inr order) =
        let more : m + 1 ≤ length e.planned.lineage.nodes = order-within e.world e.planned (m + 1) rest order.1 in
        subst (MayJudge e) (sym order.0) ((omega (arith, more), quiet), tt)

pub next-more : (e : PlannedWorld) (ns : List NodeId) (rest : List (List NodeId)) → IsSetting e.world e.planned → AreNext e (ns ∷ rest) → AreUnstopped e ns → AreNext e rest
next-more e ns rest setting next unstopped = by next.order.1.1
  where
    m : ℕ
    m = next.order.0

    quiet : AreQuietBelow e.world e.planned m
    quiet = quiet-gap e.world e.planned next.at m setting next.order.1.0 next.quiet

    by : (AllByRecursion (λ k. k.0 < m) ns × AreInOrder e.world e.planned m rest) ⊎ ((ns ≡ record { 0 = m } ∷ []) × AreInOrder e.world e.planned (m + 1) rest) → AreNext e rest
    by (inl order) = record { at = m; quiet = quiet; order = order.1 }
    by (inr order) = record {
      at = m + 1;
      quiet = quiet-nodes_go_on e.world e.planned setting (record { 0 = m }) quiet (subst (AreUnstopped e) order.0 unstopped).0;
      order = order.1;
    }

pub none-next : (e : PlannedWorld) → IsSetting e.world e.planned → AreNext e [] → AreQuietBelow e.world e.planned (length e.planned.lineage.nodes)
none-next e setting next = quiet-gap e.world e.planned next.at (length e.planned.lineage.nodes) setting next.order next.quiet
