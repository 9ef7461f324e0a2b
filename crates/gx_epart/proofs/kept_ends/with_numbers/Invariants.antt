use Rattle.std.proofs.Common.{◌≡◌, ◌++◌, drop, map}
use Rattle.gx_epart.specs.Renumbering.{renumbered}
use Rattle.gx_epart.proofs.kept_ends.with_numbers.Given as goal

-- the edges so far and those of the rest are all edges
abbrev pub invariant-loop-edge : goal.invariant-loop-edge
invariant-loop-edge l = l.new.items ++ map (renumbered l.numbers) (drop l.edge-index l.edges) ≡ map (renumbered l.numbers) l.edges
