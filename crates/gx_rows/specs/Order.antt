-- The order of values, rows and edges.
use Rattle.std.specs.Prelude.{◌≡◌, ℕ, ℤ, Bool, false, List, [], ◌∷◌, refl}
use Rattle.std.specs.declared.cmp.Ordering.{Ordering}
use Rattle.std.specs.declared.cmp.Ordering.TheVariants.{Less, Equal, Greater}
use Rattle.std.specs.Cmp.{IsTotalOrder, bool_cmp_total}
use Rattle.std.specs.Cmp.Lexicographic.{slice_cmp}
use Rattle.std.specs.Ordering.{nat_cmp, int_cmp, bool_cmp, ordering_then, on, then_cmp}
use Rattle.std.proofs.Common.{◌∙◌, subst}
use Rattle.std.proofs.lemmas.Cmp.{nat_cmp_total, int_cmp_total, nat_list_cmp_total, lists_total, on_total, then_total}
use Rattle.gx_rows.specs.declared.row_key.RowKey.{RowKey}
use Rattle.gx_rows.specs.declared.row_key.RowKey.TheVariants as row_key
use Rattle.gx_rows.specs.declared.value.Value.{Value}
use Rattle.gx_rows.specs.declared.value.Value.TheVariants.{Int, Text, Bool as Truth, Ids}
use Rattle.gx_rows.specs.declared.vid.Vid.{Vid}

-- an edge as a clause sees it: its source, its destination and its row
abbrev pub Edge : Type 0
Edge = Vid × Vid × List Value

-- numbers before texts before truth values before lists; numbers by size, texts by bytes, false
-- before true, lists lexicographically, a prefix first
abbrev pub value_cmp : Value → Value → Ordering
value_cmp (Int a) (Int b) = int_cmp a b
value_cmp (Int a) _ = Less
value_cmp (Text a) (Int b) = Greater
value_cmp (Text a) (Text b) = slice_cmp nat_cmp a b
value_cmp (Text a) _ = Less
value_cmp (Truth a) (Truth b) = bool_cmp a b
value_cmp (Truth a) (Ids b) = Less
value_cmp (Truth a) _ = Greater
value_cmp (Ids a) (Ids b) = slice_cmp int_cmp a b
value_cmp (Ids a) _ = Greater

-- lexicographically, a prefix first
abbrev pub row_cmp : List Value → List Value → Ordering
row_cmp = slice_cmp value_cmp

-- by source, then by destination, then by row
abbrev pub edge_cmp : Edge → Edge → Ordering
edge_cmp =
    then_cmp (on (λ e. e.0.0) int_cmp) (then_cmp (on (λ e. e.1.0) int_cmp) (on (λ e. e.2) row_cmp))

-- vertices before edges; vertices by identifier, edges by `edge_cmp`
abbrev pub key_cmp : RowKey → RowKey → Ordering
key_cmp (row_key.Vertex a) (row_key.Vertex b) = on (λ (v : Vid). v.0) int_cmp a b
key_cmp (row_key.Vertex a) (row_key.Edge src dst row) = Less
key_cmp (row_key.Edge src dst row) (row_key.Vertex b) = Greater
key_cmp (row_key.Edge a b r) (row_key.Edge c d s) = edge_cmp (a, b, r) (c, d, s)

-- ---- the three are total

-- the position of a value's kind in the order of kinds
abbrev rank_of : Value → ℕ
rank_of (Int number) = 0
rank_of (Text bytes) = 1
rank_of (Truth truth) = 2
rank_of (Ids ids) = 3

-- the numbers of a value, its bytes and its truth; empty or false at the other kinds
abbrev numbers_of : Value → List ℤ
numbers_of (Int number) = number ∷ []
numbers_of (Ids ids) = ids
numbers_of (Text bytes) = []
numbers_of (Truth truth) = []

abbrev bytes_of : Value → List ℕ
bytes_of (Text bytes) = bytes
bytes_of (Int number) = []
bytes_of (Truth truth) = []
bytes_of (Ids ids) = []

abbrev truth_of : Value → Bool
truth_of (Truth truth) = truth
truth_of (Int number) = false
truth_of (Text bytes) = false
truth_of (Ids ids) = false

abbrev by_parts : Value → Value → Ordering
by_parts =
    then_cmp (on rank_of nat_cmp)
    (then_cmp (on numbers_of (slice_cmp int_cmp))
    (then_cmp (on bytes_of (slice_cmp nat_cmp)) (on truth_of bool_cmp)))

by_parts-total : IsTotalOrder by_parts
by_parts-total =
    then_total (on_total rank_of nat_cmp_total)
    (then_total (on_total numbers_of (lists_total int_cmp_total))
    (then_total (on_total bytes_of nat_list_cmp_total) (on_total truth_of bool_cmp_total)))

then-equal : (r : Ordering) → ordering_then r Equal ≡ r
then-equal Less = refl
then-equal Equal = refl
then-equal Greater = refl

by_parts-is : (a b : Value) → by_parts a b ≡ value_cmp a b
by_parts-is (Int a) (Int b) = then-equal _ ∙ then-equal (int_cmp a b)
by_parts-is (Int a) (Text b) = refl
by_parts-is (Int a) (Truth b) = refl
by_parts-is (Int a) (Ids b) = refl
by_parts-is (Text a) (Int b) = refl
by_parts-is (Text a) (Text b) = then-equal (slice_cmp nat_cmp a b)
by_parts-is (Text a) (Truth b) = refl
by_parts-is (Text a) (Ids b) = refl
by_parts-is (Truth a) (Int b) = refl
by_parts-is (Truth a) (Text b) = refl
by_parts-is (Truth a) (Truth b) = refl
by_parts-is (Truth a) (Ids b) = refl
by_parts-is (Ids a) (Int b) = refl
by_parts-is (Ids a) (Text b) = refl
by_parts-is (Ids a) (Truth b) = refl
by_parts-is (Ids a) (Ids b) = then-equal (slice_cmp int_cmp a b)

pub value_cmp-total : IsTotalOrder value_cmp
value_cmp-total = subst IsTotalOrder (λ i a b. by_parts-is a b i) by_parts-total

pub row_cmp-total : IsTotalOrder row_cmp
row_cmp-total = lists_total value_cmp-total

pub edge_cmp-total : IsTotalOrder edge_cmp
edge_cmp-total =
    then_total (on_total (λ e. e.0.0) int_cmp_total)
    (then_total (on_total (λ e. e.1.0) int_cmp_total) (on_total (λ e. e.2) row_cmp-total))
