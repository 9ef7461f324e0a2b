use Rattle.std.proofs.Common.{◌≡◌, ◌++◌, map}
use Rattle.gx_merge.specs.Kinds.{kind_given}
use Rattle.gx_types_clauses.specs.Merging as merging
use Rattle.gx_types_clauses.specs.StmtWords.{merge_of_written}
use Rattle.gx_types_clauses.proofs.ColumnLemmas.{pairs_left}
use Rattle.gx_types_clauses.proofs.merging.given_columns.Given as goal

-- the columns so far, before those of the rest
abbrev pub invariant-merges : goal.invariant-merges
invariant-merges l = l.columns.items ++ map (λ p. (p.0.name, kind_given (merge_of_written p.0.by) p.1)) (pairs_left l.merge-iterator) ≡ merging.given_columns l.merges l.kinds
