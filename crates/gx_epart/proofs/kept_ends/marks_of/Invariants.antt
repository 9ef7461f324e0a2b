use Rattle.std.proofs.Common.{◌≡◌, All, length}
use Rattle.gx_epart.specs.Renumbering.{HasNumbers, marked_by, with_marks}
use Rattle.gx_epart.proofs.kept_ends.marks_of.Given as goal

-- with the marks of the rest, they are those of all edges
abbrev pub invariant-loop-rest : goal.invariant-loop-rest
invariant-loop-rest l =
    (with_marks l.marks.items l.rest ≡ marked_by l.count l.edges) × (length l.marks.items ≡ l.count) × All (HasNumbers l.count) l.rest

abbrev pub decreases-loop-rest : goal.decreases-loop-rest
decreases-loop-rest l = length l.rest
