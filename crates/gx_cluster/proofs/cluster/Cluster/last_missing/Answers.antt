use Rattle.std.proofs.Common.{◌∙◌, sym, subst}
use Rattle.std.proofs.lemmas.List.{take_all}
use Rattle.gx_cluster.specs.States.{shape}
use Rattle.gx_cluster.proofs.MissingBlocks.{IsLastMissing, last_missing-held, last_missing-if_missing, last_missing-if_none, last_missing-if_some, last_missing-more, last_missing-none}
use Rattle.gx_cluster.proofs.cluster.Cluster.last_missing.Goals as goal

pub loop-b-init : goal.loop-b-init
loop-b-init g c = last_missing-none (shape c.args.self.now) c.args.blocks.now

pub loop-b-preserved-then-is_held : goal.loop-b-preserved-then-is_held
loop-b-preserved-then-is_held g c =
    last_missing-held (shape c.args.self.now) c.args.blocks.now c.loop-b.b-index _ c.loop-b.missing c.loop-b-test.true
    (sym c.is_held.ensures ∙ c.if-is_held.true) c.loop-b.invariant

pub loop-b-preserved : goal.loop-b-preserved
loop-b-preserved g c =
    last_missing-more (shape c.args.self.now) c.args.blocks.now c.loop-b.b-index _ c.loop-b-test.true
    (sym c.is_held.ensures ∙ c.if-is_held.false)

pub returns : goal.returns
returns g c =
    let s = shape c.args.self.now in
    let whole : IsLastMissing s c.args.blocks.now c.loop-b.missing =
    subst (λ bs. IsLastMissing s bs c.loop-b.missing) (take_all c.loop-b.b-index c.args.blocks.now c.loop-b-test.false) c.loop-b.invariant in
    record {
      none = last_missing-if_none s c.args.blocks.now c.loop-b.missing whole;
      some = last_missing-if_some s c.args.blocks.now c.loop-b.missing whole;
      missing = last_missing-if_missing s c.args.blocks.now c.loop-b.missing whole;
    }
