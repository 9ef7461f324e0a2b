use Rattle.std.proofs.Common.{◌∙◌, sym, subst}
use Rattle.std.proofs.lemmas.List.{take_all}
use Rattle.gx_cluster.specs.States.{shape}
use Rattle.gx_cluster.specs.Sweeps.{AddsMissing}
use Rattle.gx_cluster.proofs.MissingBlocks.{adds_missing-held, adds_missing-more, adds_missing-none}
use Rattle.gx_cluster.proofs.cluster.Cluster.add_missing.Goals as goal

pub loop-b-init : goal.loop-b-init
loop-b-init g c = adds_missing-none (shape c.args.self.now) c.args.blocks.now c.args.front.now.keys

pub loop-b-preserved-then-is_held : goal.loop-b-preserved-then-is_held
loop-b-preserved-then-is_held g c =
    adds_missing-held (shape c.args.self.now) c.args.blocks.now c.args.front.now.keys c.loop-b.front.keys c.loop-b.b-index _ c.loop-b-test.true
    (sym c.is_held.ensures ∙ c.if-is_held.true) c.loop-b.invariant

pub loop-b-preserved : goal.loop-b-preserved
loop-b-preserved g c =
    adds_missing-more (shape c.args.self.now) c.args.blocks.now c.args.front.now.keys c.loop-b.front.keys c.insert.new.self.keys c.loop-b.b-index _
    c.loop-b-test.true (sym c.is_held.ensures ∙ c.if-is_held.false) (λ q. c.in_ok-insert.ensures.updates.0 q) c.loop-b.invariant

pub returns : goal.returns
returns g c =
    subst (λ bs. AddsMissing (shape c.args.self.now) bs c.args.front.now.keys c.loop-b.front.keys)
    (take_all c.loop-b.b-index c.args.blocks.now c.loop-b-test.false) c.loop-b.invariant
