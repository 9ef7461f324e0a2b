use Rattle.std.proofs.Common.{◌≡◌, false, take}
use Rattle.std.specs.List.{list_any}
use Rattle.std.specs.Str.{bytes_eq}
use Rattle.gx_types_clauses.specs.NamedParts.{list_names}
use Rattle.gx_types_clauses.proofs.limits.is_among_first.Given as goal

abbrev pub invariant-names : goal.invariant-names
invariant-names l = list_any (λ n. bytes_eq n l.name) (take l.i (list_names l.list)) ≡ false
