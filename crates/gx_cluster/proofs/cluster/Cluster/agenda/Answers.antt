use Rattle.std.proofs.Common.{[], subst, sym}
use Rattle.std.specs.Prelude.{All}
use Rattle.gx_lineage.specs.Lineage.{IsBlock}
use Rattle.gx_cluster_state.specs.Nets.{net_of}
use Rattle.gx_cluster_state.specs.WantedBlockLaws.{wanted_in}
use Rattle.gx_cluster.specs.Agendas.{IsAgenda}
use Rattle.gx_cluster.specs.States.{shape}
use Rattle.gx_cluster.proofs.AgendaTurns.{first_agenda}
use Rattle.gx_cluster.proofs.Members.{All-from_has}
use Rattle.gx_cluster.proofs.cluster.Cluster.agenda.Goals as goal

pub file_all-requires : goal.file_all-requires
file_all-requires g c =
    subst (All (IsBlock c.args.dag.now)) (sym c.deref.ensures.value)
    (All-from_has (IsBlock c.args.dag.now) c.in_ok-blocks.blocks.items
    (λ q h. wanted_in {n = net_of c.args.dag.now (λ b. [])} c.requires.blocks c.requires.sound.blocks
    (c.in_ok-blocks.ensures.found_open (λ b. []) q h).wanted))

pub returns : goal.returns
returns g c f =
    let n = net_of c.args.dag.now f in
    let s = shape c.args.self.now in
    c.in_ok-file_all.ensures f c.args.targets.now
    (subst (λ a. IsAgenda n c.args.targets.now s a c.deref.result.now) (sym c.empty-agenda.ensures)
    (subst (IsAgenda n c.args.targets.now s (record { ready = []; waiting = [] })) (sym c.deref.ensures.value)
    (first_agenda n c.args.targets.now s c.in_ok-blocks.blocks.items (c.in_ok-blocks.ensures.found_open f) (c.in_ok-blocks.ensures.complete f))))
