use Rattle.std.proofs.Common.{◌≡◌, take, true}
use Rattle.std.specs.Cmp.Lexicographic.{pointwise}
use Rattle.std.specs.List.{list_all}
use Rattle.gx_types_clauses.specs.SameColumns.{is_same_kind}
use Rattle.gx_types_clauses.proofs.merging.are_all_same.Given as goal

-- the sends passed have values of these kinds
abbrev pub invariant-sends : goal.invariant-sends
invariant-sends l = list_all (pointwise is_same_kind l.kinds) (take l.other-index l.other-items) ≡ true
