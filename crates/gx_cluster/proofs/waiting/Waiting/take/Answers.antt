use Rattle.std.proofs.Common.{◌∙◌, [], ap}
use Rattle.std.specs.Prelude.{unwrap_or}
use Rattle.std.specs.Map.{lookup}
use Rattle.gx_cluster_state.specs.Blocks.{same_block}
use Rattle.gx_cluster.proofs.Lists.{unwrap_or-cond_none}
use Rattle.gx_cluster.proofs.waiting.Waiting.take.Goals as goal

pub returns-clause-others : goal.returns-clause-others
returns-clause-others c k =
    rw (← c.self.view_is)
    (ap (λ o. unwrap_or o []) (c.remove.ensures.updates.0 k) ∙ unwrap_or-cond_none (same_block c.args.input k) (lookup (same_block k) c.self.inside.lists.entries))
