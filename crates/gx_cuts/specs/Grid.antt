-- The number of partitions of the edges at one vertex under the two-dimensional cut.
use Rattle.std.specs.Prelude.{◌≡◌, ℕ, ℤ, ◌<◌, ◌≤◌, ◌⊎◌, List, length}
use Rattle.std.specs.List.{All, Contains}
use Rattle.gx_rows.specs.declared.cut.Cut.TheVariants.{TwoD}
use Rattle.gx_cuts.specs.Places.{place_of}
pub use Rattle.gx_cuts.specs.Sides.{IsSide, grid_side}

-- the edges that leave or reach v are in at most this many partitions
pub record IsSpreadOver (parts : ℕ) (v : ℤ) (most : ℕ) : Type 0 where
  pub partitions : List ℕ
  pub at_most : length partitions ≤ most
  pub in_range : All (λ p. p < parts) partitions
  pub complete : (src dst : ℤ) (n : ℕ) → (src ≡ v) ⊎ (dst ≡ v) → Contains partitions (place_of TwoD parts src dst n)
