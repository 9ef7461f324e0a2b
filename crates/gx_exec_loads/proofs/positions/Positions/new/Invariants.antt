use Rattle.std.proofs.Common.{◌≡◌, [], replicate}
use Rattle.gx_exec_loads.proofs.positions.Positions.new.Given as goal

abbrev pub invariant-loop-part : goal.invariant-loop-part
invariant-loop-part l = l.by_part.items ≡ replicate l.part []
