use Rattle.gx_types_clauses.specs.SameColumns as same
use Rattle.gx_types_clauses.proofs.ColumnLemmas.{IsComparedFrom}
use Rattle.gx_types_clauses.proofs.columns.have_same_columns.Given as goal

-- the columns passed are the same, so that the rest decides
abbrev pub invariant-columns : goal.invariant-columns
invariant-columns l = IsComparedFrom same.is_same_column l.a l.b l.i l.i-end
