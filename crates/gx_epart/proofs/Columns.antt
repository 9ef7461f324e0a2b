-- Edges by numbers, in columns.
use Rattle.std.proofs.Common.{◌≡◌, ℕ, zero, suc, ◌+◌, ◌<◌, ◌^◌, List, [], ◌∷◌, Some, get_or, length, map, slice_get, refl, sym, ap, ◌∙◌, arith}
use Rattle.std.specs.List.{range_with_len}
use Rattle.std.proofs.lemmas.List.{length-map}
use Rattle.std.proofs.lemmas.List.FromFn.{get_or-range_with_len, length-range_with_len}
use Rattle.std.proofs.lemmas.Option.{slice_get_read}
use Rattle.gx_epart.specs.Columns.{HasColumns, locals_of_columns}
use Rattle.gx_epart.specs.declared.local_edge.LocalEdge.{LocalEdge}

columns-of : (edges : List LocalEdge) → locals_of_columns (map (λ e. e.src) edges) (map (λ e. e.dst) edges) (map (λ e. e.row) edges) ≡ edges
columns-of [] = refl
columns-of (e ∷ edges) = ap (λ es. e ∷ es) (columns-of edges)

module _ (srcs dsts rows : List ℕ) (edges : List LocalEdge) (srcs_are : srcs ≡ map (λ e. e.src) edges) (dsts_are : dsts ≡ map (λ e. e.dst) edges) (rows_are : rows ≡ map (λ e. e.row) edges) where
  pub HasColumns-of : length edges < 2 ^ 32 → HasColumns srcs dsts rows
  HasColumns-of few = record {
    few = omega (arith, ap length srcs_are, length-map edges (λ e. e.src), few);
    one_dst_each = omega (arith, ap length srcs_are, length-map edges (λ e. e.src), ap length dsts_are, length-map edges (λ e. e.dst));
    one_row_each = omega (arith, ap length srcs_are, length-map edges (λ e. e.src), ap length rows_are, length-map edges (λ e. e.row));
  }

  pub locals-of : locals_of_columns srcs dsts rows ≡ edges
  locals-of = rw (srcs_are, dsts_are, rows_are) (columns-of edges)

-- the rows are at the positions of the edges
pub positions-of : (n : ℕ) (edges : List LocalEdge) → n ≡ length edges → map (λ e. e.row) edges ≡ range_with_len 0 (length edges) → range_with_len 0 n ≡ map (λ e. e.row) edges
positions-of n edges count are = ap (range_with_len 0) count ∙ sym are

pub length-locals : (srcs dsts rows : List ℕ) → length dsts ≡ length srcs → length rows ≡ length srcs → length (locals_of_columns srcs dsts rows) ≡ length srcs
length-locals [] dsts rows one two = refl
length-locals (s ∷ srcs) [] rows one two = absurd (omega (arith, one))
length-locals (s ∷ srcs) (d ∷ dsts) [] one two = absurd (omega (arith, two))
length-locals (s ∷ srcs) (d ∷ dsts) (r ∷ rows) one two = ap suc (length-locals srcs dsts rows (omega (arith, one)) (omega (arith, two)))

pub srcs-of : (srcs dsts rows : List ℕ) → length dsts ≡ length srcs → length rows ≡ length srcs → srcs ≡ map (λ e. e.src) (locals_of_columns srcs dsts rows)
srcs-of [] dsts rows one two = refl
srcs-of (s ∷ srcs) [] rows one two = absurd (omega (arith, one))
srcs-of (s ∷ srcs) (d ∷ dsts) [] one two = absurd (omega (arith, two))
srcs-of (s ∷ srcs) (d ∷ dsts) (r ∷ rows) one two = ap (λ ns. s ∷ ns) (srcs-of srcs dsts rows (omega (arith, one)) (omega (arith, two)))

pub dsts-of : (srcs dsts rows : List ℕ) → length dsts ≡ length srcs → length rows ≡ length srcs → dsts ≡ map (λ e. e.dst) (locals_of_columns srcs dsts rows)
dsts-of [] [] rows one two = refl
dsts-of [] (d ∷ dsts) rows one two = absurd (omega (arith, one))
dsts-of (s ∷ srcs) [] rows one two = refl
dsts-of (s ∷ srcs) (d ∷ dsts) [] one two = absurd (omega (arith, two))
dsts-of (s ∷ srcs) (d ∷ dsts) (r ∷ rows) one two = ap (λ ns. d ∷ ns) (dsts-of srcs dsts rows (omega (arith, one)) (omega (arith, two)))

local-here : (srcs dsts rows : List ℕ) (i s d r : ℕ) → slice_get srcs i ≡ Some s → slice_get dsts i ≡ Some d → slice_get rows i ≡ Some r
    → slice_get (locals_of_columns srcs dsts rows) i ≡ Some (record { src = s; dst = d; row = r })
local-here [] dsts rows i s d r src dst row = cc
local-here (a ∷ srcs) [] rows i s d r src dst row = cc
local-here (a ∷ srcs) (b ∷ dsts) [] i s d r src dst row = cc
local-here (a ∷ srcs) (b ∷ dsts) (c ∷ rows) zero s d r src dst row =
    let one : a ≡ s = cc in
    let two : b ≡ d = cc in
    let three : c ≡ r = cc in
    λ i. Some (record { src = one i; dst = two i; row = three i })
local-here (a ∷ srcs) (b ∷ dsts) (c ∷ rows) (suc i) s d r src dst row = local-here srcs dsts rows i s d r src dst row

-- the edge at a position
pub local-at : (srcs dsts rows : List ℕ) (i s d r : ℕ) → HasColumns srcs dsts rows → i < length srcs → s ≡ get_or srcs i s → d ≡ get_or dsts i d → slice_get rows i ≡ Some r
    → slice_get (locals_of_columns srcs dsts rows) i ≡ Some (record { src = s; dst = d; row = r })
local-at srcs dsts rows i s d r has within src dst row =
    local-here srcs dsts rows i s d r
    (slice_get_read srcs (length srcs) i s refl within src)
    (slice_get_read dsts (length dsts) i d refl (omega (arith, within, has.one_dst_each)) dst) row

pub position-at : (n i : ℕ) → i < n → slice_get (range_with_len 0 n) i ≡ Some i
position-at n i within =
    let count : i < length (range_with_len 0 n) = omega (arith, within, length-range_with_len 0 n) in
    let here : get_or (range_with_len 0 n) i i ≡ i = get_or-range_with_len 0 n i i within ∙ (omega arith) in
    slice_get_read (range_with_len 0 n) (length (range_with_len 0 n)) i i refl count (sym here)
