use Rattle.std.proofs.Common.{◌≡◌, ◌++◌, map}
use Rattle.std.specs.Prelude.{zip}
use Rattle.gx_types_clauses.proofs.ColumnLemmas.{pairs_left}
use Rattle.gx_types_clauses.proofs.sets.set_columns.Given as goal

-- the columns so far, before those of the rest
abbrev pub invariant-sets : goal.invariant-sets
invariant-sets l = l.columns.items ++ map (λ p. (p.0.name, p.1)) (pairs_left l.set-iterator) ≡ map (λ p. (p.0.name, p.1)) (zip l.sets l.kinds)
