use Rattle.std.proofs.Common.{◌∙◌, None, ap, length, subst, sym}
use Rattle.std.proofs.lemmas.List.{length-set}
use Rattle.std.specs.Prelude.{All, IsSome}
use Rattle.gx_lineage.specs.Lineage.{block_inputs}
use Rattle.gx_cluster.specs.States.{AreContents, HoldsContents, held_value, shape}
use Rattle.gx_cluster.proofs.Lists.{either_way, on_ok}
use Rattle.gx_cluster.specs.ShapeLaws.{held_values, worker_below}
use Rattle.gx_cluster.specs.StateLaws.{are_contents, contents_task, shape-with_task}
use Rattle.gx_cluster.proofs.cluster.Cluster.start.Goals as goal

pub start_with-requires-clause-worker : goal.start_with-requires-clause-worker
start_with-requires-clause-worker g c = worker_below c.args.self.now c.args.w None c.requires.idle

pub start_with-requires-clause-held : goal.start_with-requires-clause-held
start_with-requires-clause-held g c =
    subst (All (λ b. IsSome (held_value c.args.self.now.held b)))
    (sym (c.deref.ensures.value ∙ (c.in_ok-inputs.ensures ∙ ap (λ l. block_inputs l c.args.b) c.dag.ensures.lineage)))
    (held_values c.args.self.now (block_inputs (g.W.Work.lineage c.args.work.now) c.args.b) c.requires.inputs)

pub returns : goal.returns
returns g c =
    let s = c.args.self.now in
    let l = g.W.Work.lineage c.args.work.now in
    let content = g.W.Work.content c.args.work.now in
    let inputs_are = c.deref.ensures.value ∙ (c.in_ok-inputs.ensures ∙ ap (λ l. block_inputs l c.args.b) c.dag.ensures.lineage) in
    record {
      started = on_ok c.start_with.result c.start_with.ensures.started (λ h. ap shape h.2 ∙ shape-with_task s c.args.w c.args.b h.0);
      contents = either_way c.start_with.result c.start_with.ensures.started c.start_with.ensures.unchanged
          (λ h. subst (HoldsContents content l) (sym h.2)
          (contents_task content l s c.args.w c.args.b h.0 c.requires.block
          (subst (λ bs. AreContents content bs h.0) inputs_are
          (are_contents content s.held c.deref.result.now h.0 c.requires.contents.held h.1))
          c.requires.contents))
          (λ e. subst (HoldsContents content l) (sym e) c.requires.contents);
      unchanged = c.start_with.ensures.unchanged;
      spare_kept = either_way c.start_with.result c.start_with.ensures.started c.start_with.ensures.unchanged
          (λ h. ap (λ x. x.spare) h.2) (λ e. ap (λ x. x.spare) e);
      workers_kept = either_way c.start_with.result c.start_with.ensures.started c.start_with.ensures.unchanged
          (λ h. ap (λ x. length x.running) h.2 ∙ length-set s.running c.args.w _) (λ e. ap (λ x. length x.running) e);
    }
