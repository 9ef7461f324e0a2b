use Rattle.std.proofs.Common.{◌≡◌, ◌+◌, length, map}
use Rattle.std.specs.List.{range_with_len}
use Rattle.gx_epart.proofs.local_edges.are_positions.Given as goal

-- if the rest has the rows at its positions, all have
abbrev pub invariant-loop-rest : goal.invariant-loop-rest
invariant-loop-rest l =
    (map (λ e. e.row) l.rest ≡ range_with_len l.position (length l.rest) → map (λ e. e.row) l.edges ≡ range_with_len 0 (length l.edges))
    × (l.position + length l.rest ≡ length l.edges)

abbrev pub decreases-loop-rest : goal.decreases-loop-rest
decreases-loop-rest l = length l.rest
