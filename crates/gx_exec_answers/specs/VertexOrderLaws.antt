-- Vertices by identifier: those of several partitions, and those of a table in another order.
use Rattle.std.proofs.Common.{
  ◌≡◌,
  Bool,
  true,
  false,
  cond,
  List,
  [],
  ◌∷◌,
  Option,
  None,
  Some,
  IsPermutation,
  IsSortedByKey,
  map,
  refl,
  sym,
  ap,
  ◌∙◌,
}
use Rattle.std.specs.Cmp.{Equal-is, IsStrictWeakOrder}
use Rattle.std.specs.List.Sorted.{IsStableByKey}
use Rattle.std.specs.Map.{keys_of}
use Rattle.std.specs.Ordering.{is_lt}
use Rattle.std.proofs.lemmas.Cmp.{eq_by_cmp_equiv}
use Rattle.std.proofs.lemmas.List.Elements.{All-from_recursion, recursion_from_All}
use Rattle.std.proofs.lemmas.List.MinMax.{ranks_by}
use Rattle.std.proofs.lemmas.List.Sorted.{
  All-permutation,
  Contains-permutation,
  IsPermutation-trans,
}
use Rattle.std.proofs.lemmas.Map.{lookup-none, none_passes_from_lookup}
use Rattle.std.proofs.lemmas.Map.Views.{Contains-from_lookup, lookup-from_Contains}
use Rattle.gx_rows.specs.declared.value.Value.{Value}
use Rattle.gx_rows.specs.declared.vid.Vid.{Vid}
use Rattle.gx_index.specs.Ids.{
  HasDistinctIds,
  HasDistinctIds-IsPermutation,
  HasDistinctIds-from_ascending,
  IsAscending,
  IsAscending-from_sorted,
  id_cmp,
  id_cmp-exact,
  id_cmp-total,
  is_same_id,
}
use Rattle.gx_model.specs.Graphs.{Vertex, first_row_of}
use Rattle.gx_model.specs.TableOrderLaws.{same_entries}
use Rattle.gx_exec_answers.specs.VertexOrder.{id_order_of, with_vertex}
use Rattle.gx_exec_answers.specs.StableOrderLaws.{
  IsPermutation-order_of,
  IsSortedBy-order_of,
  order_of,
  order_of-unique,
  with_item,
}

-- ---- items that are seen as vertices

module _ {X : Type 0} (seen : X → Vertex) where
  abbrev has_less_id : X → X → Bool
  has_less_id x y = is_lt (id_cmp (seen x).0 (seen y).0)

  ids_rank : IsStrictWeakOrder has_less_id
  ids_rank = ranks_by id_cmp-total (λ x. (seen x).0)

  seen-with : (x : X) (ys : List X)
      → map seen (with_item has_less_id ids_rank x ys) ≡ with_vertex (seen x) (map seen ys)
  seen-with x [] = refl
  seen-with x (y ∷ ys) = by (has_less_id y x) (seen-with x ys)
    where
      by : (b : Bool) → map seen (with_item has_less_id ids_rank x ys)
          ≡ with_vertex (seen x) (map seen ys)
          → map seen (cond b (y ∷ with_item has_less_id ids_rank x ys) (x ∷ y ∷ ys))
          ≡ cond b (seen y ∷ with_vertex (seen x) (map seen ys)) (seen x ∷ seen y ∷ map seen ys)
      by true more = ap (λ vs. seen y ∷ vs) more
      by false more = refl

  seen-order_of : (xs : List X)
      → map seen (order_of has_less_id ids_rank xs) ≡ id_order_of (map seen xs)
  seen-order_of [] = refl
  seen-order_of (x ∷ xs) =
      seen-with x (order_of has_less_id ids_rank xs) ∙ ap (with_vertex (seen x)) (seen-order_of xs)

  -- sorted by identifier in a stable way
  pub id_order_of-stable : (xs ys : List X) → IsSortedByKey (λ x. (seen x).0) id_cmp ys
      → IsStableByKey (λ x. (seen x).0) id_cmp xs ys → map seen ys ≡ id_order_of (map seen xs)
  id_order_of-stable xs ys sorted stable =
      ap (map seen) (order_of-unique has_less_id ids_rank xs ys sorted stable) ∙ seen-order_of xs

-- ---- vertices with distinct identifiers

abbrev itself : Vertex → Vertex
itself v = v

order_of-vertices : (vertices : List Vertex)
    → order_of (has_less_id itself) (ids_rank itself) vertices ≡ id_order_of vertices
order_of-vertices [] = refl
order_of-vertices (v ∷ vertices) =
    one v (order_of (has_less_id itself) (ids_rank itself) vertices)
    ∙ ap (with_vertex v) (order_of-vertices vertices)
  where
    one : (v : Vertex) (ws : List Vertex)
        → with_item (has_less_id itself) (ids_rank itself) v ws ≡ with_vertex v ws
    one v [] = refl
    one v (w ∷ ws) = ap (λ us. cond (is_lt (id_cmp w.0 v.0)) (w ∷ us) (v ∷ w ∷ ws)) (one v ws)

same_is_equal : (v w : Vid) → is_same_id v w ≡ true → v ≡ w
same_is_equal v w same = id_cmp-exact v w ((Equal-is (id_cmp v w)).0 same)

-- the vertex has another identifier
abbrev other_than : Vid → Vertex → Type 0
other_than q v = is_same_id q v.0 ≡ false

-- the row of an identifier is found alike in another order
first_row_of-IsPermutation : (q : Vid) (xs ys : List Vertex) → IsPermutation xs ys
    → HasDistinctIds (keys_of ys) → first_row_of ys q ≡ first_row_of xs q
first_row_of-IsPermutation q xs ys same distinct = by (first_row_of xs q) refl
  where
    by : (r : Option (List Value)) → first_row_of xs q ≡ r → first_row_of ys q ≡ r
    by None e =
        let none = All-from_recursion (other_than q) xs
        (none_passes_from_lookup (is_same_id q) xs e) in
        lookup-none (is_same_id q) ys
        (recursion_from_All (other_than q) ys (All-permutation (other_than q) xs ys same none))
    by (Some row) e =
        lookup-from_Contains (eq_by_cmp_equiv id_cmp-total) q row ys distinct
        (Contains-permutation xs ys (q, row) same
        (Contains-from_lookup same_is_equal q row xs e))

-- vertices that ascend are those in any order, by identifier
pub id_order_of-ascending : (vertices all : List Vertex) → IsAscending (keys_of vertices)
    → IsPermutation vertices all → id_order_of all ≡ vertices
id_order_of-ascending vertices all ascending same =
    sym (order_of-vertices all)
    ∙ same_entries id_cmp-total id_cmp-exact ordered vertices
    (IsAscending-from_sorted (λ v. v.0) ordered distinct
    (IsSortedBy-order_of (has_less_id itself) (ids_rank itself) all)) ascending
    (λ q. first_row_of-IsPermutation q vertices ordered moved distinct)
  where
    ordered : List Vertex
    ordered = order_of (has_less_id itself) (ids_rank itself) all

    moved : IsPermutation vertices ordered
    moved = IsPermutation-trans vertices all ordered same
        (IsPermutation-order_of (has_less_id itself) (ids_rank itself) all)

    distinct : HasDistinctIds (keys_of ordered)
    distinct = HasDistinctIds-IsPermutation (λ v. v.0) vertices ordered moved
        (HasDistinctIds-from_ascending (keys_of vertices) ascending)
