use Rattle.std.proofs.Common.{◌≡◌, map, refl, sym, subst, arith}
use Rattle.std.specs.Prelude.{is_none, length}
use Rattle.std.proofs.lemmas.List.{length-map}
use Rattle.gx_cluster_state.specs.Tasks.{task_block}
use Rattle.gx_cluster_state.specs.PositionLaws.{NonePassBefore, none_pass_before-more, position-is, position-none, slice_get-mapped}
use Rattle.gx_cluster_state.proofs.workers.Workers.first_idle.Goals as goal

pub returns-in-None : goal.returns-in-None
returns-in-None g c =
    sym (position-is is_none _ c.loop-w.w _ (slice_get-mapped task_block c.args.self.now c.loop-w.w _ c.in-None.ensures) refl c.loop-w.invariant)

pub loop-w-preserved : goal.loop-w-preserved
loop-w-preserved g c =
    none_pass_before-more is_none _ c.loop-w.w _ (slice_get-mapped task_block c.args.self.now c.loop-w.w _ c.in-Some.ensures) refl c.loop-w.invariant

pub returns : goal.returns
returns g c =
    let tasks = map task_block c.args.self.now in
    let count : c.loop-w.w ≡ length tasks = omega (arith, length-map c.args.self.now (task_block {A = g.row.T.Denot})) in
    sym (position-none is_none tasks (subst (NonePassBefore is_none tasks) count c.loop-w.invariant))
