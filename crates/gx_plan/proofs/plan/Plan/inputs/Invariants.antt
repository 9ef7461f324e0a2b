use Rattle.std.proofs.Common.{◌≡◌, take}
use Rattle.std.specs.List.{flat_map}
use Rattle.gx_plan.specs.Plans.{input_of}
use Rattle.gx_plan.proofs.plan.Plan.inputs.Given as goal

-- the inputs of what was read so far are listed
abbrev pub invariant-loop-feed : goal.invariant-loop-feed
invariant-loop-feed l = l.inputs.items ≡ flat_map (input_of l.self.planned) (take l.feed-index l.feed-items)
