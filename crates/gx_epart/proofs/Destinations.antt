-- Destinations, numbered in another order than that of the edges.
use Rattle.std.proofs.Common.{◌≡◌, ℕ, zero, suc, true, ◌+◌, ◌<◌, All, List, [], ◌∷◌, ◌++◌, IsPermutation, Some, ◌⊎◌, inl, inr, drop, get_or, length, refl, sym, ap, slice_get, append_assoc, arith}
use Rattle.std.specs.List.{AllByRecursion, Contains}
use Rattle.std.proofs.Math.ListN.{set}
use Rattle.std.proofs.Math.Seq.{get_or-append_seam}
use Rattle.std.proofs.lemmas.Bool.{cases_eq}
use Rattle.std.proofs.lemmas.List.{get_or-set_other, get_or-set_same, length-append, length_push, map-append}
use Rattle.std.proofs.lemmas.List.Elements.{All-from_recursion, All-push, Contains-append_cases, Contains-append_right}
use Rattle.std.proofs.lemmas.List.Sorted.{All-permutation, Contains-permutation}
use Rattle.std.proofs.lemmas.Option.{get_or_from_slice_get, slice_get-get_or, slice_get-map, slice_get_read, slice_get_within}
use Rattle.gx_rows.specs.Order.{Edge}
use Rattle.gx_rows.specs.declared.value.Value.{Value}
use Rattle.gx_rows.specs.declared.vid.Vid.{Vid}
use denote.Ref.{Bor}
use Rattle.gx_index.specs.Ids.{has_id}
use Rattle.gx_epart.specs.Edges.{edges_lent}
use Rattle.gx_epart.specs.declared.local_edge.LocalEdge.{LocalEdge}
use Rattle.gx_epart.specs.Numbers.{HasDestinations, HasKnownEnds, IsInRange, destinations_from, edge_of_local, edges_of_locals, rows_of}
use Rattle.gx_epart.proofs.Numbered.{id_of_number-at}
use Rattle.gx_epart.proofs.Traversing.{drop-at}

-- the pair is the destination of an edge and its position
abbrev pub IsDestination : List Edge → Vid × ℕ → Type 0
IsDestination edges d = (e : Edge) × (slice_get edges d.1 ≡ Some e) × (e.1 ≡ d.0)

destinations-known : (pre edges : List Edge) (n : ℕ) → n ≡ length pre → AllByRecursion (IsDestination (pre ++ edges)) (destinations_from n edges)
destinations-known pre [] n at = tt
destinations-known pre (e ∷ edges) n at =
    let first : get_or (pre ++ e ∷ edges) n e ≡ e = rw at (get_or-append_seam pre e edges e) in
    let rest = destinations-known (pre ++ e ∷ []) edges (n + 1) (omega (arith, at, length_push pre e)) in (
      (e, slice_get_read (pre ++ e ∷ edges) (length (pre ++ e ∷ edges)) n e refl (omega (arith, at, length-append pre (e ∷ edges))) (sym first), refl),
      rw (append_assoc pre (e ∷ []) edges) at rest,
    )

Contains-from : (edges : List Edge) (n i : ℕ) (e : Edge) → slice_get edges i ≡ Some e → Contains (destinations_from n edges) (e.1, n + i)
Contains-from [] n i e at = cc
Contains-from (f ∷ edges) n zero e at =
    let same : f ≡ e = cc in
    let number : n ≡ n + 0 = omega arith in
    (0, omega arith, rw same (ap (λ m. (e.1, m)) number))
Contains-from (f ∷ edges) n (suc i) e at =
    let later : n + 1 + i ≡ n + suc i = omega arith in
    Contains-append_right ((f.1, n) ∷ []) (destinations_from (n + 1) edges) (e.1, n + suc i) (rw later at (Contains-from edges (n + 1) i e at))

-- each edge has the number of its destination, or that is still to be numbered
abbrev pub AreNumbered : List Vid → List Edge → List (Vid × ℕ) → List ℕ → Type 0
AreNumbered ids edges rest numbers = (i : ℕ) (e : Edge) → slice_get edges i ≡ Some e → Contains rest (e.1, i) ⊎ (slice_get ids (get_or numbers i 0) ≡ Some e.1)

module _ (ids : List Vid) (edges : List Edge) where
  module _ (ds : List (Vid × ℕ)) (same : IsPermutation (destinations_from 0 edges) ds) where
    pub IsDestination-ordered : All (IsDestination edges) ds
    IsDestination-ordered =
        All-permutation (IsDestination edges) (destinations_from 0 edges) ds same
        (All-from_recursion (IsDestination edges) (destinations_from 0 edges) (destinations-known [] edges 0 refl))

    pub AreNumbered-start : (numbers : List ℕ) → AreNumbered ids edges ds numbers
    AreNumbered-start numbers i e at =
        let number : 0 + i ≡ i = omega arith in
        inl (Contains-permutation (destinations_from 0 edges) ds (e.1, i) same (rw number at (Contains-from edges 0 i e at)))

  -- the destination is an end
  pub known-destination : (d : Vid × ℕ) → All (HasKnownEnds ids) edges → IsDestination edges d → has_id d.0 ids ≡ true
  known-destination d all known =
      let item : get_or edges d.1 known.0 ≡ known.0 = get_or_from_slice_get edges d.1 known.0 known.0 known.1 in
      let ends : HasKnownEnds ids known.0 = rw item at (all d.1 known.0 (slice_get_within edges d.1 known.0 known.1)) in
      rw (← known.2) ends.1

  AreNumbered-at : (d : Vid × ℕ) (numbers : List ℕ) (n : ℕ) → slice_get ids n ≡ Some d.0 → d.1 < length numbers → (i : ℕ) (e : Edge) → i ≡ d.1 → e.1 ≡ d.0
      → slice_get ids (get_or (set numbers d.1 n) i 0) ≡ Some e.1
  AreNumbered-at d numbers n at within i e here end = rw (here, end, get_or-set_same numbers d.1 n 0 within) at

  pub AreNumbered-more : (d : Vid × ℕ) (after : List (Vid × ℕ)) (numbers : List ℕ) (n : ℕ) → length numbers ≡ length edges → IsDestination edges d → slice_get ids n ≡ Some d.0
      → AreNumbered ids edges (d ∷ after) numbers → AreNumbered ids edges after (set numbers d.1 n)
  AreNumbered-more d after numbers n count known at so_far i e edge =
      let within : d.1 < length numbers = omega (arith, count, slice_get_within edges d.1 known.0 known.1) in
      elim (so_far i e edge) [
        | inl there ↦ elim (Contains-append_cases (d ∷ []) after (e.1, i) there) [
          | inl first ↦ inr (by_first within first)
          | inr later ↦ inl later
        ]
        | inr right ↦ elim (cases_eq i d.1) [
          | inl here ↦ inr (AreNumbered-at d numbers n at within i e here (by_same here))
          | inr apart ↦ inr (rw (get_or-set_other numbers d.1 i n 0 apart) right)
        ]
      ]
    where
      by_first : d.1 < length numbers → Contains (d ∷ []) (e.1, i) → slice_get ids (get_or (set numbers d.1 n) i 0) ≡ Some e.1
      by_first within (zero, low, same) = AreNumbered-at d numbers n at within i e (ap (λ p. p.1) (sym same)) (ap (λ p. p.0) (sym same))
      by_first within (suc k, low, same) = absurd (omega (arith, low))

      by_same : i ≡ d.1 → e.1 ≡ d.0
      by_same here = let twice : known.0 ≡ e = cc in rw (sym twice) known.2

  pub HasDestinations-numbered : (rest : List (Vid × ℕ)) → length rest ≡ 0 → (numbers : List ℕ) → length numbers ≡ length edges → AreNumbered ids edges rest numbers
      → HasDestinations ids edges numbers
  HasDestinations-numbered rest none numbers count done = record {
    count = count;
    each = λ i e at. elim (done i e at) [ inl there ↦ absurd (omega (arith, none, there.1)) | inr right ↦ right ];
  }

-- ---- edges by the numbers of their ends

-- the edge at a position, whose row is lent
pub edges_lent-at : (edges : List (Vid × Vid × Bor (List Value))) (i : ℕ) (d : Vid × Vid × Bor (List Value)) → i < length edges
    → let x = get_or edges i d in slice_get (edges_lent edges) i ≡ Some (x.0, x.1, x.2.now)
edges_lent-at edges i d within = rw (slice_get-get_or edges i d within) at (slice_get-map {B = Edge} (λ e. (e.0, e.1, e.2.now)) edges i)

module _ (ids : List Vid) (edges : List Edge) (i : ℕ) (e : Edge) (at : slice_get edges i ≡ Some e) where
  -- the source of the edge is an end
  pub known-source : All (HasKnownEnds ids) edges → has_id e.0 ids ≡ true
  known-source all =
      let item : get_or edges i e ≡ e = get_or_from_slice_get edges i e e at in
      (rw item at (all i e (slice_get_within edges i e at))).0

  -- with one more edge, those so far and those from the next position on are all edges
  pub locals-more : (locals more : List LocalEdge) (src dst : ℕ) → slice_get ids src ≡ Some e.0 → slice_get ids dst ≡ Some e.1 → more ≡ locals ++ record { src = src; dst = dst; row = i } ∷ []
      → (edges_of_locals ids (rows_of edges) locals ++ drop i edges ≡ edges) × All (IsInRange ids (rows_of edges)) locals
      → (edges_of_locals ids (rows_of edges) more ++ drop (i + 1) edges ≡ edges) × All (IsInRange ids (rows_of edges)) more
  locals-more locals more src dst at_src at_dst pushed so_far =
      let rows = rows_of edges in
      let local : LocalEdge = record { src = src; dst = dst; row = i } in
      let row : slice_get rows i ≡ Some e.2 = rw at at (slice_get-map (λ e. e.2) edges i) in
      let this : edge_of_local ids rows local ≡ e =
      rw (id_of_number-at ids src e.0 at_src, id_of_number-at ids dst e.1 at_dst, get_or_from_slice_get rows i e.2 [] row) refl in
      let first : drop i edges ≡ e ∷ drop (i + 1) edges = drop-at edges i e at in (
        rw (pushed, map-append, append_assoc, this) (rw first at so_far.0),
        rw pushed (All-push (IsInRange ids rows) locals local so_far.1
            (slice_get_within ids src e.0 at_src, slice_get_within ids dst e.1 at_dst, slice_get_within rows i e.2 row)),
      )

-- the number at the position of an edge is that of its destination
pub destination-at : (ids : List Vid) (edges : List Edge) (numbers : List ℕ) → HasDestinations ids edges numbers → (i n : ℕ) (e : Edge) → slice_get edges i ≡ Some e → n ≡ get_or numbers i n
    → slice_get ids n ≡ Some e.1
destination-at ids edges numbers has i n e at is =
    let within : i < length numbers = omega (arith, has.count, slice_get_within edges i e at) in
    let number : slice_get numbers i ≡ Some n = slice_get_read numbers (length numbers) i n refl within is in
    rw (get_or_from_slice_get numbers i n 0 number) at (has.each i e at)
