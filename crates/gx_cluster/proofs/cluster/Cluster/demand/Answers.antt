use Rattle.std.proofs.Common.{◌≡◌, ◌∙◌, [], ap, subst, sym}
use Rattle.gx_cluster_state.specs.Nets.{net_of}
use Rattle.gx_cluster_state.specs.Turns.{Turns, ended}
use Rattle.gx_cluster.specs.States.{shape}
use Rattle.gx_cluster.specs.ShapeLaws.{shape-spare}
use Rattle.gx_cluster.proofs.cluster.Cluster.demand.Goals as goal

pub returns-in_err-reserve_spare-clause-turns : goal.returns-in_err-reserve_spare-clause-turns
returns-in_err-reserve_spare-clause-turns g c =
    let n = net_of (g.W.Work.lineage c.args.work.now) (g.W.Work.freight c.args.work.now) in
    subst (λ s. Turns n c.args.targets.now (shape s) c.args.events.now (shape c.args.self.now) c.args.events.now)
    (sym c.in_err-reserve_spare.ensures.unchanged) ended

pub returns-clause-turns : goal.returns-clause-turns
returns-clause-turns g c =
    let n = net_of (g.W.Work.lineage c.args.work.now) (g.W.Work.freight c.args.work.now) in
    let first : shape c.reserve_spare.new.self ≡ shape c.args.self.now =
    ap shape c.in_ok-reserve_spare.ensures.spare ∙ shape-spare c.args.self.now 8 in
    subst (λ es. Turns n c.args.targets.now (shape c.run_all.new.self) es (shape c.args.self.now) es) (sym c.requires.no_events)
    (subst (λ s. Turns n c.args.targets.now (shape c.run_all.new.self) [] s []) first c.run_all.ensures.after.turns)
