-- The operators of vertex partitions, on lists of identifiers with rows.
use Rattle.std.specs.Prelude.{◌≡◌, ℕ, pos, Bool, true, false, cond, not, List, [], ◌∷◌, map, filter, filter_map, zip, Option, Some, None, option_map, is_some, is_none, refl}
use Rattle.std.proofs.Common.{ap}
use Rattle.std.specs.Map.{keys_of, lookup}
use Rattle.std.specs.Ordering.{eq_by_cmp}
use Rattle.gx_rows.specs.Order.{row_cmp}
use Rattle.gx_rows.specs.declared.row_key.RowKey.{RowKey}
use Rattle.gx_rows.specs.declared.row_key.RowKey.TheVariants as row_key
use Rattle.gx_rows.specs.declared.value.Value.{Value}
use Rattle.gx_rows.specs.declared.value.Value.TheVariants as value
use Rattle.gx_rows.specs.declared.vid.Vid.{Vid}
use Rattle.gx_index.specs.Ids.{is_same_id}

-- a vertex: an identifier with its row
abbrev pub VertexRow : Type 0
VertexRow = Vid × List Value

-- the row of an identifier; `None` if it has none
abbrev pub row_at : {R : Type 0} → Vid → List (Vid × R) → Option R
row_at v rows = lookup (is_same_id v) rows

-- the vertices with these rows in place of theirs
abbrev pub with_rows : {R S : Type 0} → List (Vid × R) → List S → List (Vid × S)
with_rows vertices rows = zip (keys_of vertices) rows

-- the items at which the bools, one for each, are true
abbrev pub picked : {A : Type 0} → List A → List Bool → List A
picked [] bools = []
picked (x ∷ xs) [] = []
picked (x ∷ xs) (true ∷ bools) = x ∷ picked xs bools
picked (x ∷ xs) (false ∷ bools) = picked xs bools

-- with a test for the bools, they are those that pass
pub picked-filter : {A : Type 0} (test : A → Bool) (xs : List A) → picked xs (map test xs) ≡ filter test xs
picked-filter test [] = refl
picked-filter test (x ∷ xs) = by (test x) (picked-filter test xs)
  where
    by : (b : Bool) → picked xs (map test xs) ≡ filter test xs → picked (x ∷ xs) (b ∷ map test xs) ≡ cond b (x ∷ filter test xs) (filter test xs)
    by true more = ap (λ rows. x ∷ rows) more
    by false more = more

-- ---- joins: what stands beside the rows

-- each row of xs, with the row of ys under the same identifier, if any
abbrev pub left_join : {R S : Type 0} → List (Vid × R) → List (Vid × S) → List (Vid × R × Option S)
left_join xs ys = map (λ x. (x.0, x.1, row_at x.0 ys)) xs

-- the row with the one beside it, if there is one
abbrev pub with_partner : {R S : Type 0} → Vid × R × Option S → Option (Vid × R × S)
with_partner x = option_map (λ s. (x.0, x.1, s)) x.2

-- each row of xs under whose identifier ys has a row, with that row
abbrev pub inner_join : {R S : Type 0} → List (Vid × R) → List (Vid × S) → List (Vid × R × S)
inner_join xs ys = filter_map with_partner (left_join xs ys)

-- the identifiers of what a join puts side by side
abbrev pub ids_of_join : {R S : Type 0} → List (Vid × R × S) → List Vid
ids_of_join items = map (λ x. x.0) items

-- ---- operators without a closure

-- the rows of xs whose identifier is not in ys
abbrev pub minus : {R S : Type 0} → List (Vid × R) → List (Vid × S) → List (Vid × R)
minus xs ys = filter (λ x. is_none (row_at x.0 ys)) xs

-- whether there is a row and it is another one
abbrev pub is_changed : Option (List Value) → List Value → Bool
is_changed None new = false
is_changed (Some old) new = not (eq_by_cmp row_cmp old new)

-- the rows of ys whose identifier is in xs with another row
abbrev pub diff : List VertexRow → List VertexRow → List VertexRow
diff xs ys = filter (λ y. is_changed (row_at y.0 xs) y.1) ys

-- ---- keys of faults

abbrev pub vertex_key : {R : Type 0} → Vid × R → RowKey
vertex_key at = row_key.Vertex at.0

abbrev pub join_key : {R S : Type 0} → Vid × R × S → RowKey
join_key at = row_key.Vertex at.0

-- ---- tests of what stands beside a row

abbrev pub has_partner : {R S : Type 0} → Vid × R × Option S → Bool
has_partner x = is_some x.2

abbrev pub has_no_partner : {R S : Type 0} → Vid × R × Option S → Bool
has_no_partner x = is_none x.2

-- whether the one beside it is another row
abbrev pub has_changed : Vid × List Value × Option (List Value) → Bool
has_changed x = is_changed x.2 x.1

-- ---- examples

minus-example : minus {R = ℕ} {S = ℕ} ((record { 0 = pos 1 }, 5) ∷ (record { 0 = pos 2 }, 6) ∷ []) ((record { 0 = pos 2 }, 8) ∷ []) ≡ (record { 0 = pos 1 }, 5) ∷ []
minus-example = refl

inner_join-example : inner_join {R = ℕ} {S = ℕ} ((record { 0 = pos 1 }, 5) ∷ (record { 0 = pos 2 }, 6) ∷ []) ((record { 0 = pos 2 }, 8) ∷ []) ≡ (record { 0 = pos 2 }, 6, 8) ∷ []
inner_join-example = refl

left_join-example : left_join {R = ℕ} {S = ℕ} ((record { 0 = pos 1 }, 5) ∷ (record { 0 = pos 2 }, 6) ∷ []) ((record { 0 = pos 2 }, 8) ∷ []) ≡ (record { 0 = pos 1 }, 5, None) ∷ (record { 0 = pos 2 }, 6, Some 8) ∷ []
left_join-example = refl

diff-example : diff ((record { 0 = pos 1 }, value.Int (pos 5) ∷ []) ∷ (record { 0 = pos 2 }, value.Int (pos 6) ∷ []) ∷ [])
    ((record { 0 = pos 1 }, value.Int (pos 5) ∷ []) ∷ (record { 0 = pos 2 }, value.Int (pos 7) ∷ []) ∷ (record { 0 = pos 3 }, []) ∷ [])
    ≡ (record { 0 = pos 2 }, value.Int (pos 7) ∷ []) ∷ []
diff-example = refl
