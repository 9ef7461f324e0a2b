use Rattle.std.proofs.Common.{◌≡◌, ◌∙◌, [], Less, subst, sym}
use Rattle.gx_cluster_state.specs.Blocks.{block_cmp, same_block}
use Rattle.gx_cluster_state.specs.Nets.{net_of}
use Rattle.gx_cluster_state.specs.WantedBlockLaws.{wanted_in}
use Rattle.gx_cluster.specs.States.{shape}
use Rattle.gx_cluster.specs.Sweeps.{AddsMissing, IsSweep}
use Rattle.gx_cluster.proofs.FoundBlocks.{height_falls, smaller_by_added, smaller_by_order, sweep_end, sweep_more, sweep_running, sweep_start, was_in_front}
use Rattle.gx_cluster.proofs.Lists.{empty_by}
use Rattle.gx_cluster.proofs.Members.{All-has}
use Rattle.gx_cluster.proofs.cluster.Cluster.open_blocks.Goals as goal

pub sweep-init : goal.sweep-init
sweep-init g c f =
    let n = net_of c.args.dag.now f in
    let s = shape c.args.self.now in
    subst (IsSweep n c.args.targets.now s c.add_missing.new.front.keys) (sym c.new-found.ensures.items)
    (sweep_start n c.args.targets.now s c.add_missing.new.front.keys
    (subst (λ old. AddsMissing s c.args.targets.now old c.add_missing.new.front.keys) c.new-front.ensures.empty c.in_ok-add_missing.ensures))

pub sweep-preserved-then-runs : goal.sweep-preserved-then-runs
sweep-preserved-then-runs g c f =
    sweep_running (net_of c.args.dag.now f) c.args.targets.now (shape c.args.self.now) c.sweep.front.keys c.pop_last.new.self.keys c.sweep.found.items
    c.in-Some.b (sym c.runs.ensures ∙ c.if-runs.true) c.in-Some.ensures.updates.0 (c.sweep.invariant f)

pub sweep-smaller-then-runs : goal.sweep-smaller-then-runs
sweep-smaller-then-runs g c =
    let n = net_of c.args.dag.now (λ b. []) in
    let s = shape c.args.self.now in
    let rest = sweep_running n c.args.targets.now s c.sweep.front.keys c.pop_last.new.self.keys c.sweep.found.items c.in-Some.b
    (sym c.runs.ensures ∙ c.if-runs.true) c.in-Some.ensures.updates.0 (c.sweep.invariant (λ b. [])) in
    height_falls c.args.dag.now.parts c.sweep.front.keys c.pop_last.new.self.keys c.in-Some.b c.in-Some.ensures.member
    (λ q h. smaller_by_order c.args.dag.now.parts q c.in-Some.b (wanted_in c.requires.blocks c.requires.sound.blocks (rest.front_wanted q h)).part
    (All-has (λ x. block_cmp x c.in-Some.b ≡ Less) c.pop_last.new.self.keys q c.in-Some.ensures.all_below h))

pub inputs-requires : goal.inputs-requires
inputs-requires g c =
    wanted_in {n = net_of c.args.dag.now (λ b. [])} c.requires.blocks c.requires.sound.blocks
    ((c.sweep.invariant (λ b. [])).front_wanted c.in-Some.b c.in-Some.ensures.member)

pub sweep-preserved : goal.sweep-preserved
sweep-preserved g c f =
    let n = net_of c.args.dag.now f in
    let s = shape c.args.self.now in
    subst (IsSweep n c.args.targets.now s c.add_missing-in-Some.new.front.keys) (sym c.in_ok-push.ensures.items)
    (sweep_more n c.args.targets.now s c.sweep.front.keys c.pop_last.new.self.keys c.add_missing-in-Some.new.front.keys c.sweep.found.items c.in-Some.b
    c.in-Some.ensures.member (sym c.runs.ensures ∙ c.if-runs.false) c.in-Some.ensures.updates.0
    (subst (λ bs. AddsMissing s bs c.pop_last.new.self.keys c.add_missing-in-Some.new.front.keys) (c.deref.ensures.value ∙ c.in_ok-inputs.ensures)
    c.in_ok-add_missing-2.ensures)
    (c.sweep.invariant f))

pub sweep-smaller : goal.sweep-smaller
sweep-smaller g c =
    let n = net_of c.args.dag.now (λ b. []) in
    let s = shape c.args.self.now in
    let r = c.sweep.invariant (λ b. []) in
    let k = c.in-Some.b in
    let adds = subst (λ bs. AddsMissing s bs c.pop_last.new.self.keys c.add_missing-in-Some.new.front.keys) (c.deref.ensures.value ∙ c.in_ok-inputs.ensures)
    c.in_ok-add_missing-2.ensures in
    height_falls c.args.dag.now.parts c.sweep.front.keys c.add_missing-in-Some.new.front.keys k c.in-Some.ensures.member
    (λ q h. smaller_by_added c.args.dag.now s c.pop_last.new.self.keys k q c.requires.sound
    (wanted_in {n = n} c.requires.blocks c.requires.sound.blocks (r.front_wanted k c.in-Some.ensures.member))
    (λ x there. smaller_by_order c.args.dag.now.parts x k
    (wanted_in {n = n} c.requires.blocks c.requires.sound.blocks (r.front_wanted x
    (was_in_front k x c.sweep.front.keys c.pop_last.new.self.keys (same_block k x) (c.in-Some.ensures.updates.0 x) there))).part
    (All-has (λ y. block_cmp y k ≡ Less) c.pop_last.new.self.keys x c.in-Some.ensures.all_below there))
    (adds.only q h))

pub returns-clause-found_open : goal.returns-clause-found_open
returns-clause-found_open g c f b h = (c.sweep.invariant f).found_open b h

pub returns-clause-complete : goal.returns-clause-complete
returns-clause-complete g c f b o =
    sweep_end (net_of c.args.dag.now f) c.args.targets.now (shape c.args.self.now) c.sweep.front.keys c.sweep.found.items
    (empty_by c.sweep.front.keys c.in_default.ensures.variant.1) (c.sweep.invariant f) b o
