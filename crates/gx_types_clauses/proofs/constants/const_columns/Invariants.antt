use Rattle.std.proofs.Common.{◌≡◌, take}
use Rattle.gx_types_clauses.specs.Constants as constants
use Rattle.gx_types_clauses.proofs.constants.const_columns.Given as goal

-- the columns of the constants passed
abbrev pub invariant-constants : goal.invariant-constants
invariant-constants l = l.columns.items ≡ constants.named_columns (take l.column-index l.column-items)
