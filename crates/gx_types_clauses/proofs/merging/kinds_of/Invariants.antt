use Rattle.std.proofs.Common.{◌≡◌, length, take}
use Rattle.gx_types_clauses.specs.SameColumns.{kinds_in}
use Rattle.gx_types_clauses.proofs.merging.kinds_of.Given as goal

-- the kinds of the columns passed
abbrev pub invariant-columns : goal.invariant-columns
invariant-columns l = record {
  so_far : l.kinds ≡ kinds_in (take l.i l.columns);
  all : l.i-end ≡ length l.columns;
}
