use Rattle.std.proofs.Common.{◌≡◌, ◌++◌, take}
use Rattle.gx_exec.specs.Courses.{targets_of}
use Rattle.gx_exec.proofs.engine.Engine.push_blocks.Given as goal

-- the blocks of the nodes so far are added
abbrev pub invariant-loop-node : goal.invariant-loop-node
invariant-loop-node l = l.blocks.items ≡ l.fn.blocks.items ++ targets_of l.self.world (take l.node-index l.nodes)
