use Rattle.std.proofs.lemmas.List.{take_all}
use Rattle.gx_exec.proofs.HeldStops.{blocks-all}
use Rattle.gx_exec.proofs.engine.Engine.blocks_of.Goals as goal

pub returns : goal.returns
returns c =
    blocks-all c.deref-nodes-items.result.now c.in_ok-lists.lists.items (λ v. v.items) c.args.self.now.world c.loop-nodes.nodes-index c.loop-nodes.blocks.items _
    (take_all c.loop-nodes.nodes-index c.deref-nodes-items.result.now c.loop-nodes-test.false) c.deref-nodes-items.ensures.value c.in_ok-lists.ensures c.loop-nodes.invariant
