use Rattle.std.proofs.Common.{◌<◌, [], subst, sym}
use Rattle.gx_cluster_state.specs.Measures.{lineage_blocks, turns_left}
use Rattle.gx_cluster_state.specs.Nets.{net_of}
use Rattle.gx_cluster_state.specs.ProgressLaws.{idle_at}
use Rattle.gx_cluster_state.specs.TurnsLeftLaws.{start_lowers}
use Rattle.gx_cluster_state.specs.WantedBlockLaws.{wanted_in, wanted_missing}
use Rattle.gx_cluster.specs.Agendas.{IsAgenda}
use Rattle.gx_cluster.specs.States.{shape}
use Rattle.gx_cluster.proofs.AgendaTurns.{least_ready, started_agenda}
use Rattle.gx_cluster_state.specs.LineageBlockLaws.{block_is_listed}
use Rattle.gx_cluster.proofs.Lists.{either_way, on_ok}
use Rattle.gx_cluster.proofs.TurnSteps.{after_same, after_start}
use Rattle.gx_cluster.proofs.cluster.Cluster.next.Goals as goal

pub start-requires-clause-block : goal.start-requires-clause-block
start-requires-clause-block g c =
    wanted_in {n = net_of (g.W.Work.lineage c.args.work.now) (g.W.Work.freight c.args.work.now)} c.requires.blocks c.requires.sound.blocks
    (c.requires.agenda.ready c.in-Some.b c.in-Some.ensures.popped.there).wanted

pub start-requires-clause-idle : goal.start-requires-clause-idle
start-requires-clause-idle g c = idle_at (shape c.args.self.now).running c.in-Some.w c.in-Some.ensures.idle

pub returns-in-Some-clause-agenda : goal.returns-in-Some-clause-agenda
returns-in-Some-clause-agenda g c =
    let n = net_of (g.W.Work.lineage c.args.work.now) (g.W.Work.freight c.args.work.now) in
    let s = shape c.args.self.now in
    let idle = idle_at s.running c.in-Some.w c.in-Some.ensures.idle in
    on_ok c.start.result c.start.ensures.started
    (λ is. subst (λ x. IsAgenda n c.args.targets.now x c.next_start.new.agenda []) (sym is)
    (started_agenda n c.args.targets.now s c.args.agenda.now c.next_start.new.agenda c.in-Some.w c.in-Some.b idle c.in-Some.ensures.popped c.requires.agenda))

pub returns-in-Some-clause-after : goal.returns-in-Some-clause-after
returns-in-Some-clause-after g c =
    let content = g.W.Work.content c.args.work.now in
    let l = g.W.Work.lineage c.args.work.now in
    let f = g.W.Work.freight c.args.work.now in
    let s = shape c.args.self.now in
    either_way c.start.result c.start.ensures.started c.start.ensures.unchanged
    (λ is. after_start content l f c.args.targets.now c.args.self.now c.start.new.self c.in-Some.w c.in-Some.b c.requires.unheld
    c.in-Some.ensures.idle (idle_at s.running c.in-Some.w c.in-Some.ensures.idle)
    (least_ready (net_of l f) c.args.targets.now s c.args.agenda.now c.next_start.new.agenda c.in-Some.b c.requires.agenda c.in-Some.ensures.popped)
    is c.start.ensures.contents c.start.ensures.spare_kept c.start.ensures.workers_kept)
    (λ same. after_same f c.args.targets.now c.args.self.now c.start.new.self c.requires.contents same)

pub returns-in-Some-clause-less : goal.returns-in-Some-clause-less
returns-in-Some-clause-less g c =
    let l = g.W.Work.lineage c.args.work.now in
    let bs = lineage_blocks l in
    let s = shape c.args.self.now in
    let is = c.requires.agenda.ready c.in-Some.b c.in-Some.ensures.popped.there in
    on_ok c.start.result c.start.ensures.started
    (λ now. subst (λ x. turns_left bs x < turns_left bs s) (sym now)
    (start_lowers bs s c.in-Some.w c.in-Some.b
    (block_is_listed l c.in-Some.b (wanted_in {n = net_of l (g.W.Work.freight c.args.work.now)} c.requires.blocks c.requires.sound.blocks is.wanted))
    (idle_at s.running c.in-Some.w c.in-Some.ensures.idle) (wanted_missing is.wanted) is.idle))
