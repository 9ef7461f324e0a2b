use Rattle.std.proofs.Common.{[], ◌≡◌, true, take}
use Rattle.std.specs.Prelude.{All}
use Rattle.gx_cluster_state.specs.Nets.{net_of}
use Rattle.gx_cluster_state.specs.Shapes.{is_held}
use Rattle.gx_cluster.specs.Agendas.{IsAgenda}
use Rattle.gx_cluster.specs.States.{IsAfterTurns, shape}
use Rattle.gx_cluster.proofs.cluster.Cluster.run_all.Given as goal

-- the targets so far are held
abbrev pub invariant-loop-target : goal.invariant-loop-target
invariant-loop-target g l = record {
  agenda : IsAgenda (net_of (g.W.Work.lineage l.work) (g.W.Work.freight l.work)) l.targets (shape l.self) l.agenda [];
  after : IsAfterTurns (g.W.Work.content l.work) (g.W.Work.lineage l.work) (g.W.Work.freight l.work) l.targets l.fn.self l.self;
  held : All (λ b. is_held (shape l.self) b ≡ true) (take l.target-index l.targets);
}
