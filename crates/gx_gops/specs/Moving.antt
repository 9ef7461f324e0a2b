-- The edges that a cut places in a partition.
use Rattle.std.specs.Prelude.{◌≡◌, ◌≢◌, ℕ, ℤ, pos, ◌==◌, Bool, List, [], ◌∷◌, filter, refl}
use Rattle.gx_rows.specs.Order.{Edge}
use Rattle.gx_rows.specs.declared.vid.Vid.{Vid}
use Rattle.gx_rows.specs.declared.cut.Cut.{Cut}
use Rattle.gx_rows.specs.declared.cut.Cut.TheVariants.{OneD, TwoD, Random, Canonical, Rows}
use Rattle.gx_cuts.specs.Mixing.{mix_of}
use Rattle.gx_cuts.specs.Places.{place_of}

-- whether the cut places an edge from src to dst in the partition, which is one of `parts`
abbrev pub is_placed_in : Cut → ℕ → ℕ → Vid → Vid → Bool
is_placed_in cut part parts src dst = place_of cut parts src.0 dst.0 0 == part

-- the edges that the cut places in the partition
abbrev pub edges_placed_in : Cut → ℕ → ℕ → List Edge → List Edge
edges_placed_in cut part parts edges = filter (λ e. is_placed_in cut part parts e.0 e.1) edges

-- under each cut but `Rows` an edge has one place, whatever its ordinal
pub place_of-ordinal : (cut : Cut) (parts : ℕ) (src dst : ℤ) (n : ℕ) → cut ≢ Rows → place_of cut parts src dst n ≡ place_of cut parts src dst 0
place_of-ordinal OneD parts src dst n by_ends = refl
place_of-ordinal TwoD parts src dst n by_ends = refl
place_of-ordinal Random parts src dst n by_ends = refl
place_of-ordinal Canonical parts src dst n by_ends = refl
place_of-ordinal Rows parts src dst n by_ends = absurd (by_ends refl)

-- by their sources, the edge from 2 goes to the second of two partitions
edges_placed_in-example : edges_placed_in OneD 1 2 ((record { 0 = pos 1 }, record { 0 = pos 2 }, []) ∷ (record { 0 = pos 2 }, record { 0 = pos 3 }, []) ∷ [])
    ≡ (record { 0 = pos 2 }, record { 0 = pos 3 }, []) ∷ []
unfolding mix_of
edges_placed_in-example = refl
