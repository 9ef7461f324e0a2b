use Rattle.std.proofs.Common.{◌≡◌, ◌∙◌, true, subst}
use Rattle.std.specs.Prelude.{All, Contains}
use Rattle.gx_cluster_state.specs.Nets.{net_of}
use Rattle.gx_cluster_state.specs.Shapes.{is_held}
use Rattle.gx_cluster.specs.States.{shape}
use Rattle.gx_cluster.proofs.FiledBlocks.{filed_ready, filed_waiting}
use Rattle.gx_cluster.proofs.Lists.{on_both}
use Rattle.gx_cluster.proofs.cluster.Cluster.file.Goals as goal

pub returns-in-Some : goal.returns-in-Some
returns-in-Some g c =
    on_both c.add_waiting.result
    (λ kept waits f targets rest r. filed_waiting (net_of c.args.dag.now f) targets (shape c.args.self.now) c.args.agenda.now c.add_waiting.new.self
    c.in-Some.input c.args.b rest
    (subst (λ bs. Contains bs c.in-Some.input) (c.deref.ensures.value ∙ c.in_ok-inputs.ensures) c.in-Some.ensures.some)
    c.in-Some.ensures.missing kept waits r)
    c.add_waiting.ensures.ready_kept c.add_waiting.ensures.waiting

pub returns : goal.returns
returns g c =
    on_both c.add_ready.result
    (λ updates kept f targets rest r. filed_ready (net_of c.args.dag.now f) targets (shape c.args.self.now) c.args.agenda.now c.add_ready.new.self
    c.args.b rest
    (subst (All (λ b. is_held (shape c.args.self.now) b ≡ true)) (c.deref.ensures.value ∙ c.in_ok-inputs.ensures) c.in-None.ensures.none)
    updates kept r)
    c.add_ready.ensures.ready c.add_ready.ensures.waiting_kept
