use Rattle.std.proofs.Common.{◌≡◌, take}
use Rattle.gx_types_clauses.specs.Constants as constants
use Rattle.gx_types_clauses.proofs.constants.named_row.Given as goal

-- the values of the constants passed
abbrev pub invariant-constants : goal.invariant-constants
invariant-constants l = l.values.items ≡ constants.named_values (take l.column-index l.column-items)
