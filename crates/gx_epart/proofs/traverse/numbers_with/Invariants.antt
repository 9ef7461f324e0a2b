use Rattle.std.proofs.Common.{◌≡◌, ◌++◌}
use Rattle.std.specs.Vec.Iter.{into_iter_items}
use Rattle.gx_epart.specs.Numbers.{numbers_with_rows}
use Rattle.gx_epart.proofs.traverse.numbers_with.Given as goal

-- the edges so far and those of the rest are all edges
abbrev pub invariant-loop-row : goal.invariant-loop-row
invariant-loop-row l = l.numbered.items ++ numbers_with_rows l.rest (into_iter_items l.row-iterator) ≡ numbers_with_rows l.edges l.fn.rows.items
