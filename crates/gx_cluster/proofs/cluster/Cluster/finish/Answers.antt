use Rattle.std.proofs.Common.{◌∙◌, Some, None, ap, length, subst, sym}
use Rattle.std.proofs.lemmas.List.{length-set}
use Rattle.gx_cluster_state.specs.Shapes.{finished}
use Rattle.gx_cluster.specs.States.{HoldsContents, shape}
use Rattle.gx_cluster.specs.ShapeLaws.{worker_below}
use Rattle.gx_cluster.specs.StateLaws.{contents_value, shape-with_value}
use Rattle.gx_cluster.proofs.cluster.Cluster.finish.Goals as goal

pub hold-requires : goal.hold-requires
hold-requires g c = worker_below c.args.self.now c.args.w (Some c.in_ok-computed.computed.block) c.in_ok-computed.ensures.block

pub returns : goal.returns
returns g c =
    let s = c.args.self.now in
    let r = c.in_ok-computed.computed in
    let l = g.W.Work.lineage c.args.work.now in
    let content = g.W.Work.content c.args.work.now in
    let is = c.in_ok-hold.ensures.held in
    record {
      block = c.in_ok-computed.ensures.block;
      finished = ap shape is
          ∙ (shape-with_value s c.args.w r.block r.value r.cargo ∙ ap (finished (shape s) c.args.w r.block) c.in_ok-computed.ensures.cargo);
      contents = subst (HoldsContents content l) (sym is)
          (contents_value content l s c.args.w r.block r.value r.cargo c.in_ok-computed.ensures.content c.requires.contents);
      unchanged = tt;
      spare_kept = ap (λ x. x.spare) is;
      workers_kept = ap (λ x. length x.running) is ∙ length-set s.running c.args.w None;
    }
