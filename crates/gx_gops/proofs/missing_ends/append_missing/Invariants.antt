use Rattle.std.proofs.Common.{◌≡◌, ◌++◌, length}
use Rattle.std.specs.List.{filter}
use Rattle.gx_gops.specs.Tables.{is_missing}
use Rattle.gx_gops.proofs.missing_ends.append_missing.Given as goal

-- the missing identifiers so far and those of the rest are all missing ones
abbrev pub invariant-loop-rest : goal.invariant-loop-rest
invariant-loop-rest l =
    l.ids.items ++ filter (is_missing l.rows l.part l.parts) l.rest
    ≡ l.fn.ids.items ++ filter (is_missing l.rows l.part l.parts) l.ends

abbrev pub decreases-loop-rest : goal.decreases-loop-rest
decreases-loop-rest l = length l.rest
