use Rattle.std.proofs.Common.{map}
use Rattle.std.specs.Str.{bytes_eq}
use Rattle.gx_rows.specs.Columns.{names_of}
use Rattle.gx_types_clauses.proofs.ColumnLemmas.{IsComparedFrom}
use Rattle.gx_types_clauses.proofs.merging.have_names_of.Given as goal

-- the names passed are the same, so that the rest decides
abbrev pub invariant-columns : goal.invariant-columns
invariant-columns l = IsComparedFrom bytes_eq (map (λ m. m.name) l.merges) (names_of l.columns) l.i l.i-end
