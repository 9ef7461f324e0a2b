use Rattle.std.proofs.Common.{[]}
use Rattle.gx_cluster_state.specs.Measures.{lineage_blocks, turns_left}
use Rattle.gx_cluster_state.specs.Nets.{net_of}
use Rattle.gx_cluster.specs.Agendas.{IsAgenda}
use Rattle.gx_cluster.specs.States.{IsAfterTurns, shape}
use Rattle.gx_cluster.proofs.cluster.Cluster.run_until.Given as goal

abbrev pub invariant-turns : goal.invariant-turns
invariant-turns g l = record {
  agenda : IsAgenda (net_of (g.W.Work.lineage l.work) (g.W.Work.freight l.work)) l.targets (shape l.self) l.agenda [];
  after : IsAfterTurns (g.W.Work.content l.work) (g.W.Work.lineage l.work) (g.W.Work.freight l.work) l.targets l.fn.self l.self;
}

abbrev pub decreases-turns : goal.decreases-turns
decreases-turns g l = turns_left (lineage_blocks (g.W.Work.lineage l.work)) (shape l.self)
