use Rattle.std.proofs.Common.{◌≡◌, ◌-◌}
use Rattle.std.specs.List.{range_with_len}
use Rattle.gx_exec_contents.specs.BlockContents.{stop_of}
use Rattle.gx_exec_contents.specs.PhaseFaults.{least_over}
use Rattle.gx_exec.proofs.engine.Engine.least_stop.Given as goal

-- the least stop of the last parts
abbrev pub invariant-loop-i : goal.invariant-loop-i
invariant-loop-i l = l.least ≡ least_over (λ j. stop_of l.self.world l.self.planned (record { node = l.node; part = j })) (range_with_len (l.parts - l.i) l.i)
