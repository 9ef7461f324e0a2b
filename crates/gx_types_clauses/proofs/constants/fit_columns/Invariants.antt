use Rattle.std.proofs.Common.{map}
use Rattle.gx_types_clauses.specs.Constants as constants
use Rattle.gx_types_clauses.specs.SameColumns.{is_same_kind, kinds_in}
use Rattle.gx_types_clauses.proofs.ColumnLemmas.{IsComparedFrom}
use Rattle.gx_types_clauses.proofs.constants.fit_columns.Given as goal

-- the constants passed fit, so that the rest decides
abbrev pub invariant-columns : goal.invariant-columns
invariant-columns l = IsComparedFrom is_same_kind (map constants.const_kind l.row) (kinds_in l.columns) l.i l.i-end
