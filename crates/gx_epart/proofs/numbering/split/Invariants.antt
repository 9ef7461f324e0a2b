use Rattle.std.proofs.Common.{◌≡◌, ◌+◌, ◌++◌, length, map}
use Rattle.std.specs.Vec.Iter.{into_iter_items}
use Rattle.gx_epart.specs.Numbers.{locals_from, locals_of}
use Rattle.gx_epart.proofs.numbering.split.Given as goal

-- the edges and rows so far and those of the rest are all edges and rows
abbrev pub invariant-loop-src : goal.invariant-loop-src
invariant-loop-src l =
    (l.edges.items ++ locals_from (length l.rows.items) (into_iter_items l.src-iterator) ≡ locals_of l.fn.numbered.items)
    × (l.rows.items ++ map (λ e. e.2) (into_iter_items l.src-iterator) ≡ map (λ e. e.2) l.fn.numbered.items)
    × (length l.rows.items + length (into_iter_items l.src-iterator) ≡ length l.fn.numbered.items)
