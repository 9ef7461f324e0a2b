-- The edges that a cut moves to a part: those of all parts, in edge order.
use Rattle.std.proofs.Common.{◌≡◌, ℕ, zero, suc, ◌+◌, ◌<◌, ◌==◌, Bool, true, false, cond, List, [], ◌∷◌, ◌++◌, length, get_or, refl, sym, ap, ◌∙◌, subst, arith}
use Rattle.std.specs.Prelude.{⊤}
use Rattle.std.specs.List.{filter, flat_map, range_with_len}
use Rattle.std.specs.List.Sorted.{IsPermutation, IsSorted}
use Rattle.std.specs.Ordering.{is_lt, ordering_reverse}
use Rattle.std.specs.declared.cmp.Ordering.{Ordering}
use Rattle.std.specs.declared.cmp.Ordering.TheVariants.{Less, Equal, Greater}
use Rattle.std.proofs.lemmas.List.Elements.{filter-append}
use Rattle.std.proofs.lemmas.List.Sorted.{IsPermutation-append, IsPermutation-cons, IsPermutation-middle, IsPermutation-refl, IsPermutation-sym, IsPermutation-trans}
use Rattle.gx_cuts.specs.Places.{place_of}
use Rattle.gx_rows.specs.declared.cut.Cut.{Cut}
use Rattle.gx_epart.specs.Edges.{edge_order_of, with_edge}
use Rattle.gx_epart.specs.UniqueLaws.{IsEdgeOrderOf-unique}
use Rattle.gx_gops.specs.Moving.{edges_placed_in, is_placed_in}
use Rattle.gx_model.specs.Graphs.{placed_anew, plain_edges}
use Rattle.gx_rows.specs.Order.{Edge, edge_cmp, edge_cmp-total}
use Rattle.gx_exec_contents.specs.EqualEdgeLaws.{edge_cmp-exact}
use Rattle.gx_exec_contents.specs.PartContents.{part_of_edges}
use Rattle.gx_exec_contents.specs.PartEndLaws.{ArePlaced}
use Rattle.gx_exec_contents.specs.JoinedPartLaws.{edges-are_their_parts}

-- ---- edges in edge order are sorted

-- the first of these edges, if there is one, is not less than e
abbrev IsNotAbove : Edge → List Edge → Type 0
IsNotAbove e [] = ⊤
IsNotAbove e (f ∷ edges) = is_lt (edge_cmp f e) ≡ false

-- no edge is less than the one before it
abbrev Climbs : List Edge → Type 0
Climbs [] = ⊤
Climbs (e ∷ edges) = IsNotAbove e edges × Climbs edges

not_above-with : (e f : Edge) (edges : List Edge) → is_lt (edge_cmp e f) ≡ false → IsNotAbove f edges → IsNotAbove f (with_edge e edges)
not_above-with e f [] one rest = one
not_above-with e f (g ∷ edges) one rest = by (is_lt (edge_cmp e g))
  where
    by : (b : Bool) → IsNotAbove f (cond b (e ∷ g ∷ edges) (g ∷ with_edge e edges))
    by true = one
    by false = rest

turned : (r : Ordering) → is_lt r ≡ true → is_lt (ordering_reverse r) ≡ false
turned Less less = refl
turned Equal less = cc
turned Greater less = cc

climbs-with : (e : Edge) (edges : List Edge) → Climbs edges → Climbs (with_edge e edges)
climbs-with e [] climbs = (tt, tt)
climbs-with e (f ∷ edges) climbs = by (is_lt (edge_cmp e f)) refl (climbs-with e edges climbs.1)
  where
    by : (b : Bool) → is_lt (edge_cmp e f) ≡ b → Climbs (with_edge e edges) → Climbs (cond b (e ∷ f ∷ edges) (f ∷ with_edge e edges))
    by true less more = (ap is_lt (edge_cmp-total.antisymm f e) ∙ turned (edge_cmp e f) less, climbs)
    by false less more = (not_above-with e f edges less climbs.0, more)

climbs-edge_order_of : (edges : List Edge) → Climbs (edge_order_of edges)
climbs-edge_order_of [] = tt
climbs-edge_order_of (e ∷ edges) = climbs-with e (edge_order_of edges) (climbs-edge_order_of edges)

not_above-first : (e d : Edge) (edges : List Edge) → IsNotAbove e edges → 0 < length edges → is_lt (edge_cmp (get_or edges 0 d) e) ≡ false
not_above-first e d [] rest some = absurd (omega (arith, some))
not_above-first e d (f ∷ edges) rest some = rest

sorted_from_climbs : (edges : List Edge) → Climbs edges → IsSorted edge_cmp edges
sorted_from_climbs [] climbs k d low high = absurd (omega arith)
sorted_from_climbs (e ∷ edges) climbs zero d low high =
    let some : 0 < length edges = omega arith in
    not_above-first e d edges climbs.0 some
sorted_from_climbs (e ∷ edges) climbs (suc k) d low high =
    let next : k + 1 < length edges = omega arith in
    let one : suc k + 1 ≡ suc (k + 1) = omega arith in
    rw one (sorted_from_climbs edges climbs.1 k d (omega arith) next)

-- ---- and have the same edges

module _ (p : Edge → Bool) where
  -- so have those of them that pass a test
  passing-with : (e : Edge) (edges : List Edge) → IsPermutation (filter p (e ∷ edges)) (filter p (with_edge e edges))
  passing-with e [] = IsPermutation-refl (filter p (e ∷ []))
  passing-with e (f ∷ edges) = by (is_lt (edge_cmp e f)) (passing-with e edges)
    where
      swapped : (a b : Bool) → IsPermutation (cond a (e ∷ filter p edges) (filter p edges)) (filter p (with_edge e edges))
          → IsPermutation (cond a (e ∷ cond b (f ∷ filter p edges) (filter p edges)) (cond b (f ∷ filter p edges) (filter p edges)))
          (cond b (f ∷ filter p (with_edge e edges)) (filter p (with_edge e edges)))
      swapped true true more =
          IsPermutation-trans (e ∷ f ∷ filter p edges) (f ∷ e ∷ filter p edges) (f ∷ filter p (with_edge e edges))
          (IsPermutation-middle (e ∷ []) f (filter p edges)) (IsPermutation-cons f (e ∷ filter p edges) (filter p (with_edge e edges)) more)
      swapped true false more = more
      swapped false true more = IsPermutation-cons f (filter p edges) (filter p (with_edge e edges)) more
      swapped false false more = more

      by : (b : Bool) → IsPermutation (filter p (e ∷ edges)) (filter p (with_edge e edges))
          → IsPermutation (filter p (e ∷ f ∷ edges)) (filter p (cond b (e ∷ f ∷ edges) (f ∷ with_edge e edges)))
      by true more = IsPermutation-refl (filter p (e ∷ f ∷ edges))
      by false more = swapped (p e) (p f) more

  pub passing-in_order : (edges : List Edge) → IsPermutation (filter p edges) (filter p (edge_order_of edges))
  passing-in_order [] = IsPermutation-refl []
  passing-in_order (e ∷ edges) =
      IsPermutation-trans (filter p (e ∷ edges)) (filter p (e ∷ edge_order_of edges)) (filter p (with_edge e (edge_order_of edges)))
      (by (p e) (passing-in_order edges)) (passing-with e (edge_order_of edges))
    where
      by : (b : Bool) → IsPermutation (filter p edges) (filter p (edge_order_of edges))
          → IsPermutation (cond b (e ∷ filter p edges) (filter p edges)) (cond b (e ∷ filter p (edge_order_of edges)) (filter p (edge_order_of edges)))
      by true more = IsPermutation-cons e (filter p edges) (filter p (edge_order_of edges)) more
      by false more = more

passing-all : (edges : List Edge) → filter (λ e. true) edges ≡ edges
passing-all [] = refl
passing-all (e ∷ edges) = ap (λ es. e ∷ es) (passing-all edges)

pub permuted-edge_order_of : (edges : List Edge) → IsPermutation edges (edge_order_of edges)
permuted-edge_order_of edges =
    subst (λ es. IsPermutation es (edge_order_of edges)) (passing-all edges)
    (subst (IsPermutation (filter (λ e. true) edges)) (passing-all (edge_order_of edges)) (passing-in_order (λ e. true) edges))

-- the same edges have one edge order, in whatever order they are given
pub edge_order_of-permuted : (xs ys : List Edge) → IsPermutation xs ys → edge_order_of xs ≡ edge_order_of ys
edge_order_of-permuted xs ys same =
    IsEdgeOrderOf-unique edge_cmp-exact ys (edge_order_of xs)
    (record {
      same = IsPermutation-trans ys xs (edge_order_of xs) (IsPermutation-sym xs ys same) (permuted-edge_order_of xs);
      sorted = sorted_from_climbs (edge_order_of xs) (climbs-edge_order_of xs);
    })

-- ---- the edges of all parts

module _ {X : Type 0} where
  permuted-pieces : (f g : ℕ → List X) → ((j : ℕ) → IsPermutation (f j) (g j)) → (js : List ℕ) → IsPermutation (flat_map f js) (flat_map g js)
  permuted-pieces f g same [] = IsPermutation-refl []
  permuted-pieces f g same (j ∷ js) = IsPermutation-append (f j) (g j) (flat_map f js) (flat_map g js) (same j) (permuted-pieces f g same js)

  passing-pieces : (p : X → Bool) (f : ℕ → List X) (js : List ℕ) → filter p (flat_map f js) ≡ flat_map (λ j. filter p (f j)) js
  passing-pieces p f [] = refl
  passing-pieces p f (j ∷ js) = filter-append p (f j) (flat_map f js) ∙ ap (λ xs. filter p (f j) ++ xs) (passing-pieces p f js)

module _ (p : Edge → Bool) where
  -- the placed edges that pass a test
  abbrev passing_edges : List (ℕ × Edge) → List (ℕ × Edge)
  passing_edges edges = filter (λ e. p e.1) edges

  plain-passing : (edges : List (ℕ × Edge)) → plain_edges (passing_edges edges) ≡ filter p (plain_edges edges)
  plain-passing [] = refl
  plain-passing (e ∷ edges) = by (p e.1) (plain-passing edges)
    where
      by : (b : Bool) → plain_edges (passing_edges edges) ≡ filter p (plain_edges edges)
          → plain_edges (cond b (e ∷ passing_edges edges) (passing_edges edges)) ≡ cond b (e.1 ∷ filter p (plain_edges edges)) (filter p (plain_edges edges))
      by true more = ap (λ es. e.1 ∷ es) more
      by false more = more

  placed-passing : (parts : ℕ) (edges : List (ℕ × Edge)) → ArePlaced parts edges → ArePlaced parts (passing_edges edges)
  placed-passing parts [] placed = tt
  placed-passing parts (e ∷ edges) placed = by (p e.1) (placed-passing parts edges placed.1)
    where
      by : (b : Bool) → ArePlaced parts (passing_edges edges) → ArePlaced parts (cond b (e ∷ passing_edges edges) (passing_edges edges))
      by true more = (placed.0, more)
      by false more = more

  part-passing_edges : (j : ℕ) (edges : List (ℕ × Edge)) → part_of_edges j (passing_edges edges) ≡ filter p (part_of_edges j edges)
  part-passing_edges j [] = refl
  part-passing_edges j (e ∷ edges) = by (p e.1) refl (e.0 == j) refl (part-passing_edges j edges)
    where
      by : (b : Bool) → p e.1 ≡ b → (t : Bool) → (e.0 == j) ≡ t → part_of_edges j (passing_edges edges) ≡ filter p (part_of_edges j edges)
          → part_of_edges j (cond b (e ∷ passing_edges edges) (passing_edges edges))
          ≡ filter p (plain_edges (cond t (e ∷ filter (λ f. f.0 == j) edges) (filter (λ f. f.0 == j) edges)))
      by true passes true here more = rw (here, passes) (ap (λ es. e.1 ∷ es) more)
      by true passes false there more = rw there more
      by false fails true here more = rw fails more
      by false fails false there more = more

  -- the edges of all parts that pass a test have the edge order of all edges that pass it
  pub order-passing_parts : (parts : ℕ) (edges : List (ℕ × Edge)) → ArePlaced parts edges
      → edge_order_of (filter p (flat_map (λ j. edge_order_of (part_of_edges j edges)) (range_with_len 0 parts))) ≡ edge_order_of (filter p (plain_edges edges))
  order-passing_parts parts edges placed =
      let all : List ℕ = range_with_len 0 parts in
      let kept : List (ℕ × Edge) = passing_edges edges in
      ap edge_order_of (passing-pieces p (λ j. edge_order_of (part_of_edges j edges)) all)
      ∙ sym (edge_order_of-permuted (plain_edges kept) (flat_map (λ j. filter p (edge_order_of (part_of_edges j edges))) all)
      (IsPermutation-trans (plain_edges kept) (flat_map (λ j. part_of_edges j kept) all) (flat_map (λ j. filter p (edge_order_of (part_of_edges j edges))) all)
      (edges-are_their_parts parts kept (placed-passing parts edges placed))
      (permuted-pieces (λ j. part_of_edges j kept) (λ j. filter p (edge_order_of (part_of_edges j edges)))
      (λ j. subst (λ es. IsPermutation es (filter p (edge_order_of (part_of_edges j edges)))) (sym (part-passing_edges j edges)) (passing-in_order p (part_of_edges j edges))) all)))
      ∙ ap edge_order_of (plain-passing edges)

-- ---- edges that a cut places anew

part-placed_anew : (place : Edge → ℕ) (i : ℕ) (edges : List (ℕ × Edge)) → part_of_edges i (placed_anew place edges) ≡ filter (λ e. place e == i) (plain_edges edges)
part-placed_anew place i [] = refl
part-placed_anew place i (e ∷ edges) = by (place e.1 == i) (part-placed_anew place i edges)
  where
    by : (b : Bool) → part_of_edges i (placed_anew place edges) ≡ filter (λ f. place f == i) (plain_edges edges)
        → plain_edges (cond b ((place e.1, e.1) ∷ filter (λ f. f.0 == i) (placed_anew place edges)) (filter (λ f. f.0 == i) (placed_anew place edges)))
        ≡ cond b (e.1 ∷ filter (λ f. place f == i) (plain_edges edges)) (filter (λ f. place f == i) (plain_edges edges))
    by true more = ap (λ es. e.1 ∷ es) more
    by false more = more

-- of the edges of all parts, those that the cut places in part i are part i of the edges that it places anew
pub order-moved : (cut : Cut) (i parts : ℕ) (edges : List (ℕ × Edge)) → ArePlaced parts edges
    → edge_order_of (edges_placed_in cut i parts (flat_map (λ j. edge_order_of (part_of_edges j edges)) (range_with_len 0 parts)))
    ≡ edge_order_of (part_of_edges i (placed_anew (λ e. place_of cut parts e.0.0 e.1.0 0) edges))
order-moved cut i parts edges placed =
    order-passing_parts (λ e. is_placed_in cut i parts e.0 e.1) parts edges placed
    ∙ ap edge_order_of (sym (part-placed_anew (λ e. place_of cut parts e.0.0 e.1.0 0) i edges))
