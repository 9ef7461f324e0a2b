use Rattle.std.proofs.Common.{◌≡◌}
use Rattle.std.specs.List.{list_all}
use Rattle.gx_merge.specs.Kinds.{takes_kind}
use Rattle.gx_types_clauses.specs.Merging as merging
use Rattle.gx_types_clauses.specs.StmtWords.{merge_of_written}
use Rattle.gx_types_clauses.proofs.ColumnLemmas.{pairs_left}
use Rattle.gx_types_clauses.proofs.merging.take_each.Given as goal

-- the merges passed take their kinds, so that the rest decides
abbrev pub invariant-merges : goal.invariant-merges
invariant-merges l = list_all (λ p. takes_kind (merge_of_written p.0.by) p.1) (pairs_left l.merge-iterator) ≡ merging.take_each l.merges l.kinds
