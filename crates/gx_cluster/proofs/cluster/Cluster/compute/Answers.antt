use Rattle.std.proofs.Common.{◌≡◌, ◌∙◌, ◌<◌, Some, None, ap, length, subst, sym}
use Rattle.std.specs.Prelude.{slice_get}
use Rattle.gx_lineage.specs.Lineage.{block_inputs}
use Rattle.gx_cluster_state.specs.PositionLaws.{slice_get-below}
use Rattle.gx_cluster.specs.States.{AreContents}
use Rattle.gx_cluster.specs.ShapeLaws.{busy_task, task_busy}
use Rattle.gx_cluster.proofs.cluster.Cluster.compute.Goals as goal

pub unreachable-requires : goal.unreachable-requires
unreachable-requires g c =
    let task = busy_task c.args.self.now c.args.w c.requires.busy.0 c.requires.busy.1 in
    let idle : Some (Some task.0) ≡ Some None = sym task.1 ∙ (ap (λ s. slice_get s.running c.args.w) (sym c.self.view_is) ∙ c.in_default.ensures) in
    absurd (cc)

pub task-requires : goal.task-requires
task-requires g c =
    let task = busy_task c.args.self.now c.args.w c.requires.busy.0 c.requires.busy.1 in
    subst (λ s. c.args.w < length s.running) (sym c.self.view_is) (slice_get-below c.args.self.now.running c.args.w (Some task.0) task.1)

pub run-requires : goal.run-requires
run-requires g c =
    let at = ap (λ s. slice_get s.running c.args.w) (sym c.self.view_is) ∙ c.in-Some.ensures in
    g.met.W.Work.fits_contents c.args.work.now c.in-Some.task.now.block _ (c.requires.contents.blocks c.args.w c.in-Some.task.now at)
    (subst (AreContents (g.W.Work.content c.args.work.now) (block_inputs (g.W.Work.lineage c.args.work.now) c.in-Some.task.now.block)) (sym c.inputs.ensures)
    (c.requires.contents.inputs c.args.w c.in-Some.task.now at))

pub returns : goal.returns
returns g c =
    let at = ap (λ s. slice_get s.running c.args.w) (sym c.self.view_is) ∙ c.in-Some.ensures in
    let content = c.in_ok-value.ensures (c.requires.contents.blocks c.args.w c.in-Some.task.now at)
    (subst (AreContents (g.W.Work.content c.args.work.now) (block_inputs (g.W.Work.lineage c.args.work.now) c.in-Some.task.now.block)) (sym c.inputs.ensures)
    (c.requires.contents.inputs c.args.w c.in-Some.task.now at)) in
    record {
      block = task_busy c.args.self.now c.args.w c.in-Some.task.now at;
      content = content;
      cargo = c.in_ok-cargo.ensures content;
    }
