use Rattle.std.proofs.Common.{◌+◌, drop, subst}
use Rattle.std.proofs.lemmas.List.{drop_all, drop_more}
use Rattle.gx_cluster_state.specs.Nets.{net_of}
use Rattle.gx_cluster.specs.Agendas.{IsAgenda}
use Rattle.gx_cluster.specs.States.{shape}
use Rattle.gx_cluster.proofs.cluster.Cluster.file_all.Goals as goal

pub loop-b-init : goal.loop-b-init
loop-b-init g c f targets r = r

pub file-requires : goal.file-requires
file-requires g c = c.requires c.loop-b.b-index _ c.loop-b-test.true

pub loop-b-preserved : goal.loop-b-preserved
loop-b-preserved g c f targets r =
    c.in_ok-file.ensures f targets (drop (c.loop-b.b-index + 1) c.args.blocks.now)
    (subst (IsAgenda (net_of c.args.dag.now f) targets (shape c.args.self.now) c.loop-b.agenda)
    (drop_more c.args.blocks.now c.loop-b.b-index _ c.loop-b-test.true) (c.loop-b.invariant f targets r))

pub returns : goal.returns
returns g c f targets r =
    subst (IsAgenda (net_of c.args.dag.now f) targets (shape c.args.self.now) c.loop-b.agenda)
    (drop_all c.loop-b.b-index c.args.blocks.now c.loop-b-test.false) (c.loop-b.invariant f targets r)
