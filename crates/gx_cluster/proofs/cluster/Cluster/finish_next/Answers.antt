use Rattle.std.proofs.Common.{◌∙◌, ◌<◌, ⊎_elim, subst, sym}
use Rattle.std.specs.Prelude.{All}
use Rattle.gx_lineage.specs.Lineage.{IsBlock}
use Rattle.gx_cluster_state.specs.Measures.{lineage_blocks, turns_left}
use Rattle.gx_cluster_state.specs.Nets.{net_of}
use Rattle.gx_cluster_state.specs.ProgressLaws.{a_worker_is_busy, busy_at, idle_or_busy}
use Rattle.gx_cluster_state.specs.TurnsLeftLaws.{finish_lowers}
use Rattle.gx_cluster_state.specs.WantedBlockLaws.{wanted_in}
use Rattle.gx_cluster.specs.Agendas.{waiting_for}
use Rattle.gx_cluster.specs.States.{shape}
use Rattle.gx_cluster.proofs.Lists.{on_ok, on_ok_any}
use Rattle.gx_cluster.proofs.Members.{All-from_has}
use Rattle.gx_cluster.proofs.TurnSteps.{after_finish, after_same, no_start_is_stuck, refiled}
use Rattle.gx_cluster.proofs.cluster.Cluster.finish_next.Goals as goal

pub unreachable-requires : goal.unreachable-requires
unreachable-requires g c =
    let n = net_of (g.W.Work.lineage c.args.work.now) (g.W.Work.freight c.args.work.now) in
    let s = shape c.args.self.now in
    ⊎_elim (λ h. idle_or_busy s.running c.in_default.ensures.workers h (sym c.in_default.ensures.first))
    (λ h. a_worker_is_busy n c.args.targets.now s c.requires.sound.earlier c.requires.unheld h (sym c.in_default.ensures.first))
    (no_start_is_stuck n c.args.targets.now s c.args.agenda.now c.requires.agenda c.requires.no_start)

pub finish-requires-clause-busy : goal.finish-requires-clause-busy
finish-requires-clause-busy g c = busy_at (shape c.args.self.now).running c.in-Some.w (sym c.in-Some.ensures.first)

pub returns-in_err-b-clause-after : goal.returns-in_err-b-clause-after
returns-in_err-b-clause-after g c =
    after_same (g.W.Work.freight c.args.work.now) c.args.targets.now c.args.self.now c.finish.new.self c.requires.contents c.in_err-b.ensures.unchanged

pub file_all-requires : goal.file_all-requires
file_all-requires g c =
    let l = g.W.Work.lineage c.args.work.now in
    let n = net_of l (g.W.Work.freight c.args.work.now) in
    let blocks = waiting_for c.args.agenda.now.waiting c.in_ok-b.b in
    subst (λ d. All (IsBlock d) c.deref.result.now) (sym c.dag.ensures.lineage)
    (subst (All (IsBlock l)) (sym (c.deref.ensures.value ∙ c.take_waiting-waiting.ensures.blocks))
    (All-from_has (IsBlock l) blocks
    (λ q h. wanted_in {n = n} c.requires.blocks c.requires.sound.blocks (c.requires.agenda.waiting c.in_ok-b.b q h).wanted)))

pub returns-clause-agenda : goal.returns-clause-agenda
returns-clause-agenda g c =
    on_ok c.file_all.result c.file_all.ensures
    (λ files. refiled (g.W.Work.lineage c.args.work.now) c.dag.result.now (g.W.Work.freight c.args.work.now) c.args.targets.now
    (shape c.args.self.now) (shape c.finish.new.self) c.args.agenda.now c.take_waiting-waiting.new.self c.file_all.new.agenda
    c.in-Some.w c.in_ok-b.b c.deref.result.now c.dag.ensures.lineage c.in_ok-b.ensures.finished
    (c.deref.ensures.value ∙ c.take_waiting-waiting.ensures.blocks) c.in_ok-b.ensures.block
    (record { ready_kept = c.take_waiting-waiting.ensures.ready_kept; others = c.take_waiting-waiting.ensures.others })
    c.requires.agenda files)

pub returns-clause-after : goal.returns-clause-after
returns-clause-after g c =
    let n = net_of (g.W.Work.lineage c.args.work.now) (g.W.Work.freight c.args.work.now) in
    after_finish (g.W.Work.content c.args.work.now) (g.W.Work.lineage c.args.work.now) (g.W.Work.freight c.args.work.now) c.args.targets.now
    c.args.self.now c.finish.new.self c.in-Some.w c.in_ok-b.b c.requires.unheld
    (no_start_is_stuck n c.args.targets.now (shape c.args.self.now) c.args.agenda.now c.requires.agenda c.requires.no_start)
    (sym c.in-Some.ensures.first) c.in_ok-b.ensures.block c.in_ok-b.ensures.finished c.in_ok-b.ensures.contents c.in_ok-b.ensures.spare_kept
    c.in_ok-b.ensures.workers_kept

pub returns-clause-less : goal.returns-clause-less
returns-clause-less g c =
    let bs = lineage_blocks (g.W.Work.lineage c.args.work.now) in
    let s = shape c.args.self.now in
    on_ok_any c.file_all.result
    (subst (λ x. turns_left bs x < turns_left bs s) (sym c.in_ok-b.ensures.finished)
    (finish_lowers bs s c.in-Some.w c.in_ok-b.b (g.W.Work.freight c.args.work.now c.in_ok-b.b) c.in_ok-b.ensures.block))
