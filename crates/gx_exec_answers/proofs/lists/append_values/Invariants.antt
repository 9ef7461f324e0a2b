use Rattle.std.proofs.Common.{◌≡◌, ◌++◌, length}
use Rattle.gx_exec_answers.proofs.lists.append_values.Given as goal

-- the values so far and those of the rest are all values
abbrev pub invariant-loop-rest : goal.invariant-loop-rest
invariant-loop-rest l = l.values.items ++ l.rest ≡ l.fn.values.items ++ l.row

abbrev pub decreases-loop-rest : goal.decreases-loop-rest
decreases-loop-rest l = length l.rest
