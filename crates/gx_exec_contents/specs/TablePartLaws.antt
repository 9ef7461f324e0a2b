-- Parts of tables: look-ups, order, and the table of a part of the rows.
use Rattle.std.proofs.Common.{◌≡◌, ℕ, Bool, true, false, cond, List, [], ◌∷◌, Option, Some, None, refl, sym, ap, ap₂, ◌∙◌, subst}
use Rattle.std.specs.Cmp.{Equal-is}
use Rattle.std.specs.declared.cmp.Ordering.TheVariants.{Less}
use Rattle.std.specs.List.{AllByRecursion, cons_option, filter, filter_map}
use Rattle.std.specs.List.Sorted.{IsStrictlySortedBy}
use Rattle.std.specs.Map.{keys_of}
use Rattle.std.proofs.lemmas.List.Kept.{IsStrictlySortedBy-filter}
use Rattle.std.proofs.lemmas.Map.Entries.{lookup-filter-keys}
use Rattle.gx_rows.specs.declared.value.Value.{Value}
use Rattle.gx_rows.specs.declared.vid.Vid.{Vid}
use Rattle.gx_index.specs.Ids.{IsAscending, id_cmp, id_cmp-exact, is_same_id}
use Rattle.gx_model.specs.Graphs.{Vertex, first_row_of, table_of_rows, vertex_if}
use Rattle.gx_model.specs.TableLaws.{IsAscending-table, first_row_of-table, table_from_look_ups, with_default}
use Rattle.gx_gops.specs.Tables.{is_in_part, table_of}
use Rattle.gx_gops.specs.TableLaws.{table_of-unique}
use Rattle.gx_exec_contents.specs.PartContents.{part_of_vertices}

pub same_from_test : (q k : Vid) → is_same_id q k ≡ true → k ≡ q
same_from_test q k same = sym (id_cmp-exact q k ((Equal-is (id_cmp q k)).0 same))

-- a look-up in part i is the look-up where the vertex is in it, and else finds nothing
pub first_row_of-part : (parts i : ℕ) (q : Vid) (rows : List Vertex) → first_row_of (part_of_vertices parts i rows) q ≡ cond (is_in_part i parts q) (first_row_of rows q) None
first_row_of-part parts i q rows =
    lookup-filter-keys (is_same_id q) (is_in_part i parts) (is_in_part i parts q) (λ k same. ap (is_in_part i parts) (same_from_test q k same)) rows

keys-filter : (p : Vid → Bool) (rows : List Vertex) → keys_of (filter (λ v. p v.0) rows) ≡ filter p (keys_of rows)
keys-filter p [] = refl
keys-filter p (r ∷ rows) = by (p r.0) (keys-filter p rows)
  where
    by : (b : Bool) → keys_of (filter (λ v. p v.0) rows) ≡ filter p (keys_of rows)
        → keys_of (cond b (r ∷ filter (λ v. p v.0) rows) (filter (λ v. p v.0) rows)) ≡ cond b (r.0 ∷ filter p (keys_of rows)) (filter p (keys_of rows))
    by true more = ap (λ ks. r.0 ∷ ks) more
    by false more = more

pub IsAscending-part : (parts i : ℕ) (rows : List Vertex) → IsAscending (keys_of rows) → IsAscending (keys_of (part_of_vertices parts i rows))
IsAscending-part parts i rows ascending =
    subst IsAscending (sym (keys-filter (is_in_part i parts) rows)) (IsStrictlySortedBy-filter id_cmp (is_in_part i parts) (keys_of rows) ascending)

-- the part of a table is the table of the part of the rows
pub part-table_of_rows : (parts i : ℕ) (rows : List Vertex) → part_of_vertices parts i (table_of_rows rows) ≡ table_of_rows (part_of_vertices parts i rows)
part-table_of_rows parts i rows =
    table_from_look_ups (part_of_vertices parts i rows) (part_of_vertices parts i (table_of_rows rows))
    (IsAscending-part parts i (table_of_rows rows) (IsAscending-table rows))
    (λ q. first_row_of-part parts i q (table_of_rows rows)
    ∙ ap (λ u. cond (is_in_part i parts q) u None) (first_row_of-table q rows)
    ∙ sym (first_row_of-part parts i q rows))

-- the table that the kernels make is that of the model
pub table_of-is : (rows : List Vertex) → table_of rows ≡ table_of_rows rows
table_of-is rows =
    sym (table_of-unique rows (table_of_rows rows) (record { ascending = IsAscending-table rows; first_rows = λ q. first_row_of-table q rows }))

-- the part of identifiers with one row each
pub part-with_default : (parts i : ℕ) (row : List Value) (ids : List Vid) → part_of_vertices parts i (with_default row ids) ≡ with_default row (filter (is_in_part i parts) ids)
part-with_default parts i row [] = refl
part-with_default parts i row (id ∷ ids) = by (is_in_part i parts id) (part-with_default parts i row ids)
  where
    by : (b : Bool) → part_of_vertices parts i (with_default row ids) ≡ with_default row (filter (is_in_part i parts) ids)
        → cond b ((id, row) ∷ part_of_vertices parts i (with_default row ids)) (part_of_vertices parts i (with_default row ids))
        ≡ with_default row (cond b (id ∷ filter (is_in_part i parts) ids) (filter (is_in_part i parts) ids))
    by true more = ap (λ vs. (id, row) ∷ vs) more
    by false more = more

-- ---- vertices with new rows

module _ (h : Vertex → Option (List Value)) where
  -- each vertex with its new row, if it has one
  abbrev pub with_new_rows : List Vertex → List Vertex
  with_new_rows vertices = filter_map (λ v. vertex_if v.0 (h v)) vertices

  -- new rows of a part are the part of the new rows
  pub part-with_new_rows : (parts i : ℕ) (vertices : List Vertex) → with_new_rows (part_of_vertices parts i vertices) ≡ part_of_vertices parts i (with_new_rows vertices)
  part-with_new_rows parts i [] = refl
  part-with_new_rows parts i (v ∷ vertices) = by (is_in_part i parts v.0) refl (h v) refl (part-with_new_rows parts i vertices)
    where
      by : (b : Bool) → is_in_part i parts v.0 ≡ b → (u : Option (List Value)) → h v ≡ u
          → with_new_rows (part_of_vertices parts i vertices) ≡ part_of_vertices parts i (with_new_rows vertices)
          → with_new_rows (cond b (v ∷ part_of_vertices parts i vertices) (part_of_vertices parts i vertices))
          ≡ part_of_vertices parts i (cons_option (vertex_if v.0 u) (with_new_rows vertices))
      by true e None none more = rw none more
      by true e (Some row) some more = rw (some, e) (ap (λ vs. (v.0, row) ∷ vs) more)
      by false e None none more = more
      by false e (Some row) some more = rw e more

  below_step : (z : Vid) (v : Vid) (u : Option (List Value)) (vertices : List Vertex) → id_cmp z v ≡ Less
      → AllByRecursion (λ y. id_cmp z y ≡ Less) (keys_of vertices) → AllByRecursion (λ y. id_cmp z y ≡ Less) (keys_of (cons_option (vertex_if v u) vertices))
  below_step z v None vertices at more = more
  below_step z v (Some row) vertices at more = (at, more)

  below-with_new_rows : (z : Vid) (vertices : List Vertex) → AllByRecursion (λ y. id_cmp z y ≡ Less) (keys_of vertices) → AllByRecursion (λ y. id_cmp z y ≡ Less) (keys_of (with_new_rows vertices))
  below-with_new_rows z [] all = tt
  below-with_new_rows z (v ∷ vertices) all = below_step z v.0 (h v) (with_new_rows vertices) all.0 (below-with_new_rows z vertices all.1)

  ascending_step : (v : Vid) (u : Option (List Value)) (vertices : List Vertex) → AllByRecursion (λ y. id_cmp v y ≡ Less) (keys_of vertices)
      → IsAscending (keys_of vertices) → IsAscending (keys_of (cons_option (vertex_if v u) vertices))
  unfolding IsStrictlySortedBy
  ascending_step v None vertices below more = more
  ascending_step v (Some row) vertices below more = (below, more)

  -- vertices with new rows ascend as before
  pub IsAscending-with_new_rows : (vertices : List Vertex) → IsAscending (keys_of vertices) → IsAscending (keys_of (with_new_rows vertices))
  unfolding IsStrictlySortedBy
  IsAscending-with_new_rows [] ascending = ascending
  IsAscending-with_new_rows (v ∷ vertices) ascending =
      ascending_step v.0 (h v) (with_new_rows vertices) (below-with_new_rows v.0 vertices ascending.0) (IsAscending-with_new_rows vertices ascending.1)

-- ---- vertices of a part, by what is known of other vertices of the part

-- at a vertex of the part, a look-up in the part is a look-up in all
pub look_up-in_part : (parts i : ℕ) (rows : List Vertex) (v : Vid) → is_in_part i parts v ≡ true → first_row_of (part_of_vertices parts i rows) v ≡ first_row_of rows v
look_up-in_part parts i rows v here = first_row_of-part parts i v rows ∙ ap (λ b. cond b (first_row_of rows v) None) here

-- what agrees on the vertices of a part gives the same there
pub filter_map-in_part : {X : Type 0} (parts i : ℕ) (f g : Vertex → Option X) → ((v : Vertex) → is_in_part i parts v.0 ≡ true → f v ≡ g v) → (vertices : List Vertex)
    → filter_map f (part_of_vertices parts i vertices) ≡ filter_map g (part_of_vertices parts i vertices)
filter_map-in_part parts i f g same [] = refl
filter_map-in_part parts i f g same (v ∷ vertices) = by (is_in_part i parts v.0) refl (filter_map-in_part parts i f g same vertices)
  where
    by : (b : Bool) → is_in_part i parts v.0 ≡ b → filter_map f (part_of_vertices parts i vertices) ≡ filter_map g (part_of_vertices parts i vertices)
        → filter_map f (cond b (v ∷ part_of_vertices parts i vertices) (part_of_vertices parts i vertices))
        ≡ filter_map g (cond b (v ∷ part_of_vertices parts i vertices) (part_of_vertices parts i vertices))
    by true here more = ap₂ (λ u us. cons_option u us) (same v here) more
    by false there more = more

-- the part of the vertices that pass a test, by a test that agrees with it on the part
pub part-passing : (parts i : ℕ) (p q : Vertex → Bool) → ((v : Vertex) → is_in_part i parts v.0 ≡ true → q v ≡ p v) → (vertices : List Vertex)
    → filter q (part_of_vertices parts i vertices) ≡ part_of_vertices parts i (filter p vertices)
part-passing parts i p q same [] = refl
part-passing parts i p q same (v ∷ vertices) = by (is_in_part i parts v.0) refl (p v) refl (part-passing parts i p q same vertices)
  where
    by : (b : Bool) → is_in_part i parts v.0 ≡ b → (t : Bool) → p v ≡ t
        → filter q (part_of_vertices parts i vertices) ≡ part_of_vertices parts i (filter p vertices)
        → filter q (cond b (v ∷ part_of_vertices parts i vertices) (part_of_vertices parts i vertices))
        ≡ part_of_vertices parts i (cond t (v ∷ filter p vertices) (filter p vertices))
    by true here true passes more = rw (same v here ∙ passes, here) (ap (λ vs. v ∷ vs) more)
    by true here false fails more = rw (same v here ∙ fails) more
    by false there true passes more = rw there more
    by false there false fails more = more

module _ (p : Vertex → Bool) where
  -- what is below all vertices is below those that pass
  pub below-passing : (z : Vid) (vertices : List Vertex) → AllByRecursion (λ y. id_cmp z y ≡ Less) (keys_of vertices) → AllByRecursion (λ y. id_cmp z y ≡ Less) (keys_of (filter p vertices))
  below-passing z [] all = tt
  below-passing z (v ∷ vertices) all = by (p v) (below-passing z vertices all.1)
    where
      by : (b : Bool) → AllByRecursion (λ y. id_cmp z y ≡ Less) (keys_of (filter p vertices))
          → AllByRecursion (λ y. id_cmp z y ≡ Less) (keys_of (cond b (v ∷ filter p vertices) (filter p vertices)))
      by true more = (all.0, more)
      by false more = more

  ascending_by : (v : Vertex) (vertices : List Vertex) (b : Bool) → AllByRecursion (λ y. id_cmp v.0 y ≡ Less) (keys_of (filter p vertices)) → IsAscending (keys_of (filter p vertices))
      → IsAscending (keys_of (cond b (v ∷ filter p vertices) (filter p vertices)))
  unfolding IsStrictlySortedBy
  ascending_by v vertices true below more = (below, more)
  ascending_by v vertices false below more = more

  -- vertices that pass ascend as before
  pub IsAscending-passing : (vertices : List Vertex) → IsAscending (keys_of vertices) → IsAscending (keys_of (filter p vertices))
  unfolding IsStrictlySortedBy
  IsAscending-passing [] ascending = ascending
  IsAscending-passing (v ∷ vertices) ascending =
      ascending_by v vertices (p v) (below-passing v.0 vertices ascending.0) (IsAscending-passing vertices ascending.1)
