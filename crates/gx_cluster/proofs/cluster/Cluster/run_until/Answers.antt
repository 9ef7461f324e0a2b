use Rattle.gx_cluster.proofs.TurnSteps.{after_none, after_then}
use Rattle.gx_cluster.proofs.cluster.Cluster.run_until.Goals as goal

pub turns-init : goal.turns-init
turns-init g c = record {
  agenda = c.requires.agenda;
  after = after_none (g.W.Work.freight c.args.work.now) c.args.targets.now c.args.self.now c.requires.contents;
}

pub turns-preserved : goal.turns-preserved
turns-preserved g c = record { agenda = c.in_ok-next.ensures.agenda; after = after_then c.turns.invariant.after c.in_ok-next.ensures.after }

pub returns-in_err-next-clause-after : goal.returns-in_err-next-clause-after
returns-in_err-next-clause-after g c = after_then c.turns.invariant.after c.in_err-next.ensures.after
