-- The cells in row m and in column m of a square grid are at most one fewer than twice its side.
use Rattle.std.proofs.Common.{ℕ, ℤ, ◌+◌, ◌-◌, ◌*◌, ◌%◌, ◌<◌, ◌≤◌, List, ◌++◌, map, length, inl, inr, subst, sym, arith}
use Rattle.std.specs.List.{All, Contains, range_with_len}
use Rattle.std.proofs.lemmas.Bool.{cases_order}
use Rattle.std.proofs.lemmas.List.{length-append}
use Rattle.std.proofs.lemmas.List.Elements.{All-append, All-map, Contains-append_left, Contains-append_right}
use Rattle.std.proofs.lemmas.List.FromFn.{get_or-map-range_with_len, length-map-range_with_len}
use Rattle.std.proofs.lemmas.Nat.{mod_below}
use Rattle.gx_cuts.specs.Mixing.{mix_of}
use Rattle.gx_cuts.specs.Grid.{IsSide, IsSpreadOver, grid_side}
use Rattle.gx_cuts.proofs.SideLemmas.{IsSide-grid_side}

-- the partition of the cell in row i and column j
abbrev cell : ℕ → ℕ → ℕ → ℕ → ℕ
cell parts s i j = (i * s + j) % parts

-- the partitions of row m, and of n cells of column m from row a on
abbrev row : ℕ → ℕ → ℕ → List ℕ
row parts s m = map (cell parts s m) (range_with_len 0 s)

abbrev column : ℕ → ℕ → ℕ → ℕ → ℕ → List ℕ
column parts s m a n = map (λ i. cell parts s i m) (range_with_len a n)

-- row m, and column m without its cell in row m
abbrev cross : ℕ → ℕ → ℕ → List ℕ
cross parts s m = row parts s m ++ (column parts s m 0 m ++ column parts s m (m + 1) (s - 1 - m))

length-cross : (parts s m : ℕ) → m < s → length (cross parts s m) ≤ 2 * s - 1
length-cross parts s m h =
    let above : List ℕ = column parts s m 0 m in
    let below : List ℕ = column parts s m (m + 1) (s - 1 - m) in
    omega (
      arith,
      length-append (row parts s m) (above ++ below),
      length-append above below,
      length-map-range_with_len (cell parts s m) 0 s,
      length-map-range_with_len (λ i. cell parts s i m) 0 m,
      length-map-range_with_len (λ i. cell parts s i m) (m + 1) (s - 1 - m),
    )

-- a function whose values are all below a number
below_all : (parts : ℕ) (f : ℕ → ℕ) (a n : ℕ) → ((i : ℕ) → f i < parts) → All (λ p. p < parts) (map f (range_with_len a n))
below_all parts f a n h = All-map (λ p. p < parts) f (range_with_len a n) (λ k d _. h _)

below-cross : (parts s m : ℕ) → 0 < parts → All (λ p. p < parts) (cross parts s m)
below-cross parts s m some =
    All-append (λ p. p < parts) _ _ (below_all parts _ 0 s (λ j. mod_below _ _ some))
    (All-append (λ p. p < parts) _ _ (below_all parts _ 0 m (λ i. mod_below _ _ some)) (below_all parts _ (m + 1) (s - 1 - m) (λ i. mod_below _ _ some)))

-- the value at a number of a range is in the list of the values
value_in : (f : ℕ → ℕ) (a n j : ℕ) → a ≤ j → j < a + n → Contains (map f (range_with_len a n)) (f j)
value_in f a n j low high =
    (j - a, omega (arith, length-map-range_with_len f a n), get_or-map-range_with_len f a n (j - a) j (f j) (omega arith) (omega arith))

in_row : (parts s m j : ℕ) → j < s → Contains (cross parts s m) (cell parts s m j)
in_row parts s m j h = Contains-append_left _ _ _ (value_in (cell parts s m) 0 s j (omega arith) (omega arith))

in_column : (parts s m i : ℕ) → m < s → i < s → Contains (cross parts s m) (cell parts s i m)
in_column parts s m i p h =
    elim (cases_order i m) [
      | inl e ↦ subst (λ (k : ℕ). Contains (cross parts s m) (cell parts s k m)) (sym e) (in_row parts s m m p)
      | inr (inl less) ↦ Contains-append_right (row parts s m) _ _ (Contains-append_left _ _ _ (value_in (λ k. cell parts s k m) 0 m i (omega arith) (omega arith)))
      | inr (inr more) ↦ Contains-append_right (row parts s m) _ _ (Contains-append_right (column parts s m 0 m) _ _ (value_in (λ k. cell parts s k m) (m + 1) (s - 1 - m) i (omega arith) (omega arith)))
    ]

-- a grid has a row
side_some : (parts s : ℕ) → 1 ≤ parts → IsSide parts s → 0 < s
side_some parts s some side = elim (cases_order s 0) [ inl e ↦ absurd (omega (arith, rw e at side.enough)) | inr (inl less) ↦ omega arith | inr (inr more) ↦ more ]

pub spread : (parts : ℕ) (v : ℤ) → 1 ≤ parts → IsSpreadOver parts v (2 * grid_side parts - 1)
spread parts v some =
    let s : ℕ = grid_side parts in
    let m : ℕ = mix_of v % s in
    let p : 0 < s = side_some parts s some (IsSide-grid_side parts some) in
    let q : m < s = mod_below _ _ p in
    record {
      partitions = cross parts s m;
      at_most = length-cross parts s m q;
      in_range = below-cross parts s m (omega arith);
      complete = λ src dst n h. elim h [
        | inl e ↦ subst (λ (x : ℤ). Contains (cross parts s m) (cell parts s (mix_of x % s) (mix_of dst % s))) (sym e) (in_row parts s m (mix_of dst % s) (mod_below _ _ p))
        | inr e ↦ subst (λ (x : ℤ). Contains (cross parts s m) (cell parts s (mix_of src % s) (mix_of x % s))) (sym e) (in_column parts s m (mix_of src % s) q (mod_below _ _ p))
      ];
    }
