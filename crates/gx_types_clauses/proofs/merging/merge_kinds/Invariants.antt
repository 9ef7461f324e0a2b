use Rattle.std.proofs.Common.{◌≡◌, take}
use Rattle.gx_types_clauses.specs.Merging as merging
use Rattle.gx_types_clauses.proofs.merging.merge_kinds.Given as goal

-- the kinds of the merges passed
abbrev pub invariant-merges : goal.invariant-merges
invariant-merges l = l.kinds ≡ merging.merge_kinds (take l.merge-index l.merge-items)
