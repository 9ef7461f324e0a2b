-- Edges in edge order: those of several partitions, and the same edges in another order.
use Rattle.std.proofs.Common.{
  ◌≡◌,
  ℕ,
  ◌+◌,
  ◌<◌,
  Bool,
  false,
  List,
  [],
  ◌∷◌,
  IsPermutation,
  IsSorted,
  length,
  map,
  flat_map,
  get_or,
  refl,
  sym,
  ap,
  ◌∙◌,
  subst,
  arith,
}
use Rattle.std.specs.Cmp.{IsStrictWeakOrder}
use Rattle.std.specs.Ordering.{int_cmp, is_lt, ordering_then}
use Rattle.std.specs.declared.cmp.Ordering.{Ordering}
use Rattle.std.specs.declared.cmp.Ordering.TheVariants.{Less, Equal, Greater}
use Rattle.std.proofs.lemmas.List.{get_or-map, length-map}
use Rattle.std.proofs.lemmas.List.MinMax.{ranks_by}
use Rattle.std.proofs.lemmas.List.Sorted.{
  IsPermutation-append,
  IsPermutation-map,
  IsPermutation-refl,
  IsPermutation-sym,
  IsPermutation-trans,
}
use Rattle.gx_rows.specs.Order.{Edge, edge_cmp, edge_cmp-total, row_cmp}
use Rattle.gx_epart.specs.Edges.{IsEdgeOrderOf, edge_order_of}
use Rattle.gx_exec_answers.specs.StableOrderLaws.{
  IsPermutation-order_of,
  IsSortedBy-order_of,
  order_of,
}

-- ---- items that are seen as edges, sorted

-- the order of a tuple of three, which compares the first two before the third
abbrev pub tuple_cmp : Edge → Edge → Ordering
tuple_cmp e f = ordering_then (ordering_then (int_cmp e.0.0 f.0.0) (int_cmp e.1.0 f.1.0))
    (row_cmp e.2 f.2)

then_assoc : (a b c : Ordering)
    → ordering_then (ordering_then a b) c ≡ ordering_then a (ordering_then b c)
then_assoc Less b c = refl
then_assoc Equal b c = refl
then_assoc Greater b c = refl

tuple_cmp-edge : (e f : Edge) → tuple_cmp e f ≡ edge_cmp e f
tuple_cmp-edge e f = then_assoc (int_cmp e.0.0 f.0.0) (int_cmp e.1.0 f.1.0) (row_cmp e.2 f.2)

module _ {X : Type 0} (seen : X → Edge) where
  sorted_seen : (xs : List X) → IsSorted (λ x y. tuple_cmp (seen x) (seen y)) xs
      → IsSorted edge_cmp (map seen xs)
  sorted_seen xs sorted k d low high =
      let within : k + 1 < length xs = rw length-map at high in
      by xs sorted k within d
    where
      by : (xs : List X) → IsSorted (λ x y. tuple_cmp (seen x) (seen y)) xs → (k : ℕ)
          → k + 1 < length xs → (d : Edge)
          → is_lt (edge_cmp (get_or (map seen xs) (k + 1) d) (get_or (map seen xs) k d)) ≡ false
      by [] sorted k within d = absurd (omega arith)
      by (x ∷ xs) sorted k within d =
          let before : k < length (x ∷ xs) = omega arith in
          rw (get_or-map seen (x ∷ xs) (k + 1) x d within, get_or-map seen (x ∷ xs) k x d before)
          (ap is_lt (sym (tuple_cmp-edge (seen (get_or (x ∷ xs) (k + 1) x))
          (seen (get_or (x ∷ xs) k x)))) ∙ sorted k x (omega arith) within)

  -- items that are sorted are seen in edge order
  pub IsEdgeOrderOf-seen : (xs ys : List X) → IsPermutation xs ys
      → IsSorted (λ x y. tuple_cmp (seen x) (seen y)) ys → IsEdgeOrderOf (map seen xs) (map seen ys)
  IsEdgeOrderOf-seen xs ys same sorted =
      record { same = IsPermutation-map seen xs ys same; sorted = sorted_seen ys sorted }

-- ---- the same edges in another order

abbrev is_less : Edge → Edge → Bool
is_less e f = is_lt (edge_cmp e f)

edges_rank : IsStrictWeakOrder is_less
edges_rank = ranks_by edge_cmp-total (λ e. e)

-- given that edges have one edge order (`edge_order_is_unique` of gx_epart)
module _ (unique : (edges ordered : List Edge) → IsEdgeOrderOf edges ordered
    → ordered ≡ edge_order_of edges) where
  by_permutation : (xs ys : List Edge) → IsPermutation xs ys
      → order_of is_less edges_rank xs ≡ edge_order_of ys
  by_permutation xs ys same =
      unique ys ordered (record {
        same = IsPermutation-trans ys xs ordered (IsPermutation-sym xs ys same)
            (IsPermutation-order_of is_less edges_rank xs);
        sorted = IsSortedBy-order_of is_less edges_rank xs;
      })
    where
      ordered : List Edge
      ordered = order_of is_less edges_rank xs

  -- the edge order of edges is that of the same edges in another order
  pub edge_order_of-IsPermutation : (xs ys : List Edge) → IsPermutation xs ys
      → edge_order_of xs ≡ edge_order_of ys
  edge_order_of-IsPermutation xs ys same =
      sym (by_permutation xs xs (IsPermutation-refl xs)) ∙ by_permutation xs ys same

  -- edges in edge order are the same edges
  pub IsPermutation-edge_order_of : (xs : List Edge) → IsPermutation xs (edge_order_of xs)
  IsPermutation-edge_order_of xs =
      subst (IsPermutation xs) (by_permutation xs xs (IsPermutation-refl xs))
      (IsPermutation-order_of is_less edges_rank xs)

  -- the edges of parts, each in edge order, are the edges of the parts
  pub IsPermutation-ordered_parts : {J : Type 0} (part : J → List Edge) (js : List J)
      → IsPermutation (flat_map part js) (flat_map (λ j. edge_order_of (part j)) js)
  IsPermutation-ordered_parts part [] = IsPermutation-refl []
  IsPermutation-ordered_parts part (j ∷ js) =
      IsPermutation-append (part j) (edge_order_of (part j)) (flat_map part js)
      (flat_map (λ j. edge_order_of (part j)) js)
      (IsPermutation-edge_order_of (part j)) (IsPermutation-ordered_parts part js)
