use Rattle.std.proofs.Common.{◌≡◌, [], true, subst, take}
use Rattle.std.specs.Prelude.{All}
use Rattle.std.proofs.lemmas.List.{take_all}
use Rattle.std.proofs.lemmas.List.Elements.{All-more, All-nil, All-weaker}
use Rattle.gx_cluster_state.specs.Nets.{net_of}
use Rattle.gx_cluster_state.specs.Shapes.{is_held}
use Rattle.gx_cluster_state.specs.ProgressLaws.{all_held-from}
use Rattle.gx_cluster.specs.Agendas.{IsAgenda}
use Rattle.gx_cluster.specs.States.{shape}
use Rattle.gx_cluster.proofs.TurnSteps.{after_none, after_then}
use Rattle.gx_cluster.proofs.cluster.Cluster.run_all.Goals as goal

pub returns-in_err-agenda-clause-after : goal.returns-in_err-agenda-clause-after
returns-in_err-agenda-clause-after g c = after_none (g.W.Work.freight c.args.work.now) c.args.targets.now c.args.self.now c.requires.contents

pub loop-target-init : goal.loop-target-init
loop-target-init g c = record {
  agenda = subst (λ l. IsAgenda (net_of l (g.W.Work.freight c.args.work.now)) c.args.targets.now (shape c.args.self.now) c.in_ok-agenda.agenda [])
      c.dag.ensures.lineage (c.in_ok-agenda.ensures (g.W.Work.freight c.args.work.now));
  after = after_none (g.W.Work.freight c.args.work.now) c.args.targets.now c.args.self.now c.requires.contents;
  held = All-nil (λ b. is_held (shape c.args.self.now) b ≡ true);
}

pub loop-target-preserved : goal.loop-target-preserved
loop-target-preserved g c = record {
  agenda = c.in_ok-run_until.ensures.agenda;
  after = after_then c.loop-target.invariant.after c.in_ok-run_until.ensures.after;
  held = All-more (λ b. is_held (shape c.run_until.new.self) b ≡ true) c.args.targets.now c.loop-target.target-index _ c.loop-target-test.true
      (All-weaker (λ b. is_held (shape c.loop-target.self) b ≡ true) (λ b. is_held (shape c.run_until.new.self) b ≡ true)
      c.in_ok-run_until.ensures.after.held_kept (take c.loop-target.target-index c.args.targets.now) c.loop-target.invariant.held)
      c.in_ok-run_until.ensures.held;
}

pub returns-in_err-run_until-clause-after : goal.returns-in_err-run_until-clause-after
returns-in_err-run_until-clause-after g c = after_then c.loop-target.invariant.after c.in_err-run_until.ensures.after

pub returns-clause-held : goal.returns-clause-held
returns-clause-held g c =
    all_held-from (shape c.loop-target.self) c.args.targets.now
    (subst (All (λ b. is_held (shape c.loop-target.self) b ≡ true))
    (take_all c.loop-target.target-index c.args.targets.now c.loop-target-test.false) c.loop-target.invariant.held)
