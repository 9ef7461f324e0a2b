use Rattle.std.proofs.Common.{◌≡◌, ◌++◌, length}
use Rattle.gx_gops.specs.Tables.{default_rows}
use Rattle.gx_gops.proofs.missing_ends.append_defaults.Given as goal

-- the rows so far and those of the rest are all rows
abbrev pub invariant-loop-rest : goal.invariant-loop-rest
invariant-loop-rest l = l.all.items ++ default_rows l.default l.rest ≡ l.fn.all.items ++ default_rows l.default l.ids

abbrev pub decreases-loop-rest : goal.decreases-loop-rest
decreases-loop-rest l = length l.rest
