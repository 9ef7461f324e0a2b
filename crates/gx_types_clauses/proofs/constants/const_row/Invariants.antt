use Rattle.std.proofs.Common.{◌≡◌, map, take}
use Rattle.gx_types_clauses.specs.Constants as constants
use Rattle.gx_types_clauses.proofs.constants.const_row.Given as goal

-- the values of the constants passed
abbrev pub invariant-constants : goal.invariant-constants
invariant-constants l = l.values.items ≡ map constants.const_value (take l.constant-index l.constant-items)
