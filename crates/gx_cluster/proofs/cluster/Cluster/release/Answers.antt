use Rattle.std.proofs.Common.{◌∙◌, ap, not, refl, rules}
use Rattle.std.specs.Prelude.{◌==◌}
use Rattle.std.proofs.lemmas.Map.Made.{filter_same_pairs}
use Rattle.gx_lineage.specs.declared.block_id.BlockId.{BlockId}
use Rattle.gx_cluster_state.specs.declared.held.Held.{Held}
use Rattle.gx_cluster.specs.States.{shape}
use Rattle.gx_cluster.specs.StateLaws.{shape-with_release, state_released}
use Rattle.gx_cluster.proofs.cluster.Cluster.release.Goals as goal

pub returns : goal.returns
returns g c =
    let kept = filter_same_pairs _ (λ (e : BlockId × Held g.row.T.Denot). not (e.0.node.0 == c.args.node.0)) _ (λ k v b w f' t. search rules) _ _
    c.retain.ensures.filtered in
    let is = state_released _ _ c.args.node kept refl c.in-Ok.ensures.items refl in
    rw (← c.self.view_is) (record { state = is; released = ap shape is ∙ shape-with_release _ c.args.node })
