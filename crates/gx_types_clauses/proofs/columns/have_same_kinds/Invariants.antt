use Rattle.gx_types_clauses.specs.SameColumns as same
use Rattle.gx_types_clauses.proofs.ColumnLemmas.{IsComparedFrom}
use Rattle.gx_types_clauses.proofs.columns.have_same_kinds.Given as goal

-- the kinds passed are the same, so that the rest decides
abbrev pub invariant-columns : goal.invariant-columns
invariant-columns l = IsComparedFrom same.is_same_kind (same.kinds_in l.a) (same.kinds_in l.b) l.i l.i-end
