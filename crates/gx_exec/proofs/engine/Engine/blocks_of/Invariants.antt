use Rattle.std.proofs.Common.{◌≡◌, take}
use Rattle.std.specs.List.{flat_map}
use Rattle.gx_exec.specs.Courses.{targets_of}
use Rattle.gx_exec.proofs.engine.Engine.blocks_of.Given as goal

-- the blocks of the phases so far
abbrev pub invariant-loop-nodes : goal.invariant-loop-nodes
invariant-loop-nodes l = l.blocks.items ≡ flat_map (λ v. targets_of l.self.world v.items) (take l.nodes-index l.nodes-items)
