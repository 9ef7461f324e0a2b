use Rattle.std.proofs.Common.{◌≡◌, ◌∙◌, Bool, Option, Some, None, map, refl, sym, subst, arith}
use Rattle.std.specs.Prelude.{length, option_map, slice_get}
use Rattle.std.proofs.lemmas.List.{length-map}
use Rattle.gx_cluster_state.specs.Shapes.{runs_block}
use Rattle.gx_cluster_state.specs.Tasks.{task_block}
use Rattle.gx_cluster_state.specs.PositionLaws.{NonePassBefore, list_any-at, list_any-none, none_pass_before-more, slice_get-mapped}
use Rattle.gx_cluster_state.proofs.workers.Workers.runs.Goals as goal

-- what a worker runs, by what it says of a block
task_at : {A : Type 0} (f : A → Bool) (o : Option A) (r : Bool) → option_map f o ≡ Some r → (t : A) × (o ≡ Some t) × (f t ≡ r)
task_at f (Some t) r h = (t, refl, let same : Some (f t) ≡ Some r = h in cc)
task_at f None r h = absurd (cc)

pub returns-then-runs_at : goal.returns-then-runs_at
returns-then-runs_at g c =
    let found = task_at (λ t. runs_block c.args.b (task_block t)) (slice_get c.args.self.now c.loop-w.w) c.runs_at.result c.runs_at.ensures in
    sym (list_any-at (runs_block c.args.b) _ c.loop-w.w _ (slice_get-mapped task_block c.args.self.now c.loop-w.w found.0 found.1)
    (found.2 ∙ c.if-runs_at.true))

pub loop-w-preserved : goal.loop-w-preserved
loop-w-preserved g c =
    let found = task_at (λ t. runs_block c.args.b (task_block t)) (slice_get c.args.self.now c.loop-w.w) c.runs_at.result c.runs_at.ensures in
    none_pass_before-more (runs_block c.args.b) _ c.loop-w.w _ (slice_get-mapped task_block c.args.self.now c.loop-w.w found.0 found.1)
    (found.2 ∙ c.if-runs_at.false) c.loop-w.invariant

pub returns : goal.returns
returns g c =
    let tasks = map task_block c.args.self.now in
    let count : c.loop-w.w ≡ length tasks = omega (arith, length-map c.args.self.now (task_block {A = g.row.T.Denot})) in
    sym (list_any-none (runs_block c.args.b) tasks (subst (NonePassBefore (runs_block c.args.b) tasks) count c.loop-w.invariant))
