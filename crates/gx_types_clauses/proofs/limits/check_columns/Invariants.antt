use Rattle.std.proofs.Common.{◌≡◌, [], drop, take}
use Rattle.std.specs.List.{IsDistinct}
use Rattle.std.specs.Str.{bytes_eq}
use Rattle.gx_types_clauses.specs.ColumnLists.{checked_names}
use Rattle.gx_types_clauses.specs.NamedParts.{list_names}
use Rattle.gx_types_clauses.proofs.limits.check_columns.Given as goal

abbrev pub invariant-names : goal.invariant-names
invariant-names l = record {
  checked : checked_names [] (list_names l.list) ≡ checked_names (take l.i (list_names l.list)) (drop l.i (list_names l.list));
  distinct : IsDistinct bytes_eq (take l.i (list_names l.list));
}
