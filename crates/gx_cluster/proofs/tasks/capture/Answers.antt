use Rattle.std.proofs.Common.{◌∙◌, ap, map}
use Rattle.std.proofs.lemmas.List.{map_push}
use Rattle.gx_cluster.proofs.Lists.{captured_more, not_held}
use Rattle.gx_cluster.proofs.tasks.capture.Goals as goal

pub unreachable-requires : goal.unreachable-requires
unreachable-requires g c = not_held c.args.held.now.entries _ (c.requires c.loop-b.b-index _ c.loop-b-test.true) c.in_default.ensures.value

pub loop-b-preserved : goal.loop-b-preserved
loop-b-preserved g c =
    captured_more c.args.held.now.entries c.args.blocks.now c.loop-b.b-index _ _ _ c.in-Some.held.now _ c.loop-b.invariant c.loop-b-test.true
    c.in-Some.ensures.value c.in_ok-share.ensures (ap (map (λ r. r.value)) c.in_ok-push.ensures.items ∙ map_push (λ r. r.value) c.loop-b.inputs.items c.in_ok-share.field-0)
