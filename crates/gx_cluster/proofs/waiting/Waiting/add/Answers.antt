use Rattle.std.proofs.Common.{◌∙◌, ap}
use Rattle.gx_cluster.specs.Agendas.{waiting_for}
use Rattle.gx_cluster.proofs.Lists.{waiting_more}
use Rattle.gx_cluster.proofs.waiting.Waiting.add.Goals as goal

pub returns : goal.returns
returns c k =
    waiting_more c.args.self.now c.self.inside.lists.entries c.insert.new.self.entries c.args.input c.args.b k c.take-blocks.result.items
    c.push.new.self.items c.take-blocks.ensures.blocks (ap (λ es. waiting_for es k) c.self.view_is ∙ c.take-blocks.ensures.others k)
    c.in_ok-push.ensures.items (c.in_ok-insert.ensures.updates.0 k)
