-- Edges keep their ends when these are numbered anew.
use Rattle.std.proofs.Common.{◌≡◌, ℕ, zero, suc, ◌+◌, ◌<◌, ◌≤◌, ◌^◌, ◌⊎◌, inl, inr, Bool, true, false, cond, ◌||◌, List, [], ◌∷◌, Some, All, IsSorted, get_or, length, map, slice_get, refl, sym, ap, ◌∙◌, arith, pos}
use Rattle.std.specs.Prelude.{replicate}
use Rattle.std.specs.Cmp.{Equal-is}
use Rattle.std.specs.List.{AllByRecursion}
use Rattle.std.specs.List.Sorted.{IsStrictlySortedBy}
use Rattle.std.specs.declared.cmp.Ordering.TheVariants.{Less}
use Rattle.std.proofs.Math.ListN.{set}
use Rattle.std.proofs.lemmas.Bool.{cases_eq}
use Rattle.std.proofs.lemmas.Cmp.{eq_by_cmp_equiv}
use Rattle.std.proofs.lemmas.List.{get_or-set_other, get_or-set_same, length-map, length-replicate, length-set}
use Rattle.std.proofs.lemmas.List.Elements.{All-from_recursion, recursion_from_All}
use Rattle.std.proofs.lemmas.List.Folds.{list_any_at}
use Rattle.std.proofs.lemmas.Option.{get_or_from_slice_get, slice_get-get_or, slice_get_within}
use Rattle.gx_rows.specs.Order.{Edge, edge_cmp}
use Rattle.gx_rows.specs.declared.value.Value.{Value}
use Rattle.gx_rows.specs.declared.vid.Vid.{Vid}
use Rattle.gx_index.specs.Ends.{IsSetOf}
use Rattle.gx_index.specs.Ids.{IsAscending, has_id, id_cmp, id_cmp-exact, id_cmp-total, is_same_id}
use Rattle.gx_index.specs.Sets.{masked_ids}
use Rattle.gx_epart.specs.Edges.{sources_and_destinations}
use Rattle.gx_epart.specs.declared.local_edge.LocalEdge.{LocalEdge}
use Rattle.gx_epart.specs.Numbers.{HasEdges, IsInRange, edge_of_local, edges_of_locals, id_of_number}
use Rattle.gx_epart.specs.Renumbering.{HasNumbers, marked_by, numbers_anew, renumbered, with_marks}

-- ---- the marks

pub length-with_marks : (marks : List Bool) (edges : List LocalEdge) → length (with_marks marks edges) ≡ length marks
length-with_marks marks [] = refl
length-with_marks marks (e ∷ edges) = length-with_marks (set (set marks e.src true) e.dst true) edges ∙ length-set (set marks e.src true) e.dst true ∙ length-set marks e.src true

pub length-marked_by : (n : ℕ) (edges : List LocalEdge) → length (marked_by n edges) ≡ n
length-marked_by n edges = length-with_marks (replicate n false) edges ∙ length-replicate n false

set-true : (marks : List Bool) (n k : ℕ) → k < length marks → get_or marks k false ≡ true → get_or (set marks n true) k false ≡ true
set-true marks n k within marked =
    elim (cases_eq k n) [
      | inl here ↦ rw here (get_or-set_same marks n true false (omega (arith, here, within)))
      | inr apart ↦ get_or-set_other marks n k true false apart ∙ marked
    ]

-- a mark stays
stays : (marks : List Bool) (edges : List LocalEdge) (k : ℕ) → k < length marks → get_or marks k false ≡ true → get_or (with_marks marks edges) k false ≡ true
stays marks [] k within marked = marked
stays marks (e ∷ edges) k within marked =
    stays (set (set marks e.src true) e.dst true) edges k (omega (arith, within, length-set (set marks e.src true) e.dst true, length-set marks e.src true))
    (set-true (set marks e.src true) e.dst k (omega (arith, within, length-set marks e.src true)) (set-true marks e.src k within marked))

abbrev HasMarks : List Bool → LocalEdge → Type 0
HasMarks marks e = (get_or marks e.src false ≡ true) × (get_or marks e.dst false ≡ true)

-- the ends of each edge have a mark
ends-marked : (marks : List Bool) (edges : List LocalEdge) → AllByRecursion (HasNumbers (length marks)) edges → AllByRecursion (HasMarks (with_marks marks edges)) edges
ends-marked marks [] all = tt
ends-marked marks (e ∷ edges) all =
    let first = set marks e.src true in
    let both = set first e.dst true in
    let count_first : length first ≡ length marks = length-set marks e.src true in
    let count : length both ≡ length marks = length-set first e.dst true ∙ count_first in
    let src : get_or both e.src false ≡ true = set-true first e.dst e.src (omega (arith, all.0.0, count_first)) (get_or-set_same marks e.src true false all.0.0) in
    let dst : get_or both e.dst false ≡ true = get_or-set_same first e.dst true false (omega (arith, all.0.1, count_first)) in (
      (stays both edges e.src (omega (arith, all.0.0, count)) src, stays both edges e.dst (omega (arith, all.0.1, count)) dst),
      ends-marked both edges (rw count all.1),
    )

-- ---- the numbers

anew-at : (marks : List Bool) (ids : List Vid) (n k : ℕ) (v : Vid) → get_or marks k false ≡ true → slice_get ids k ≡ Some v
    → (j : ℕ) × (get_or (numbers_anew n marks) k 0 ≡ n + j) × (slice_get (masked_ids marks ids) j ≡ Some v)
anew-at [] ids n k v marked at = cc
anew-at (m ∷ marks) [] n k v marked at = cc
anew-at (true ∷ marks) (w ∷ ids) n zero v marked at = let number : n ≡ n + 0 = omega arith in (0, number, at)
anew-at (false ∷ marks) (w ∷ ids) n zero v marked at = cc
anew-at (true ∷ marks) (w ∷ ids) n (suc k) v marked at =
    let rest = anew-at marks ids (n + 1) k v marked at in
    let number : get_or (numbers_anew (n + 1) marks) k 0 ≡ n + suc rest.0 = omega (arith, rest.1) in
    (suc rest.0, number, rest.2)
anew-at (false ∷ marks) (w ∷ ids) n (suc k) v marked at = anew-at marks ids n k v marked at

module _ (ids : List Vid) (marks : List Bool) where
  -- the identifier has the new number
  id-anew : (k : ℕ) → k < length ids → get_or marks k false ≡ true → slice_get (masked_ids marks ids) (get_or (numbers_anew 0 marks) k 0) ≡ Some (id_of_number ids k)
  id-anew k within marked =
      let at = anew-at marks ids 0 k (id_of_number ids k) marked (slice_get-get_or ids k (record { 0 = pos 0 }) within) in
      let same : get_or (numbers_anew 0 marks) k 0 ≡ at.0 = omega (arith, at.1) in
      rw same at.2

  number-anew : (k : ℕ) → k < length ids → get_or marks k false ≡ true → id_of_number (masked_ids marks ids) (get_or (numbers_anew 0 marks) k 0) ≡ id_of_number ids k
  number-anew k within marked = get_or_from_slice_get (masked_ids marks ids) (get_or (numbers_anew 0 marks) k 0) (id_of_number ids k) (record { 0 = pos 0 }) (id-anew k within marked)

  within-anew : (k : ℕ) → k < length ids → get_or marks k false ≡ true → get_or (numbers_anew 0 marks) k 0 < length (masked_ids marks ids)
  within-anew k within marked = slice_get_within (masked_ids marks ids) (get_or (numbers_anew 0 marks) k 0) (id_of_number ids k) (id-anew k within marked)

  module _ (rows : List (List Value)) where
    anew-edges : (edges : List LocalEdge) → AllByRecursion (IsInRange ids rows) edges → AllByRecursion (HasMarks marks) edges
        → edges_of_locals (masked_ids marks ids) rows (map (renumbered (numbers_anew 0 marks)) edges) ≡ edges_of_locals ids rows edges
    anew-edges [] known marked = refl
    anew-edges (e ∷ edges) known marked =
        λ i. (number-anew e.src known.0.0 marked.0.0 i, number-anew e.dst known.0.1 marked.0.1 i, get_or rows e.row []) ∷ anew-edges edges known.1 marked.1 i

    anew-in_range : (edges : List LocalEdge) → AllByRecursion (IsInRange ids rows) edges → AllByRecursion (HasMarks marks) edges
        → AllByRecursion (IsInRange (masked_ids marks ids) rows) (map (renumbered (numbers_anew 0 marks)) edges)
    anew-in_range [] known marked = tt
    anew-in_range (e ∷ edges) known marked =
        ((within-anew e.src known.0.0 marked.0.0, within-anew e.dst known.0.1 marked.0.1, known.0.2), anew-in_range edges known.1 marked.1)

-- ---- the identifiers

all-masked_ids : (P : Vid → Type 0) (mask : List Bool) (ids : List Vid) → AllByRecursion P ids → AllByRecursion P (masked_ids mask ids)
all-masked_ids P [] ids all = tt
all-masked_ids P (m ∷ mask) [] all = tt
all-masked_ids P (true ∷ mask) (v ∷ ids) all = (all.0, all-masked_ids P mask ids all.1)
all-masked_ids P (false ∷ mask) (v ∷ ids) all = all-masked_ids P mask ids all.1

pub IsAscending-masked_ids : (mask : List Bool) (ids : List Vid) → IsAscending ids → IsAscending (masked_ids mask ids)
unfolding IsStrictlySortedBy
IsAscending-masked_ids [] ids up = tt
IsAscending-masked_ids (m ∷ mask) [] up = tt
IsAscending-masked_ids (true ∷ mask) (v ∷ ids) up = (all-masked_ids (λ w. id_cmp v w ≡ Less) mask ids up.0, IsAscending-masked_ids mask ids up.1)
IsAscending-masked_ids (false ∷ mask) (v ∷ ids) up = IsAscending-masked_ids mask ids up.1

-- an identifier with a mark is an end
abbrev MarksAreEnds : List Vid → List Bool → List Vid → Type 0
MarksAreEnds ends marks ids = (k : ℕ) → k < length ids → get_or marks k false ≡ true → has_id (id_of_number ids k) ends ≡ true

masked-ends : (ends : List Vid) (marks : List Bool) (ids : List Vid) → MarksAreEnds ends marks ids → AllByRecursion (λ v. has_id v ends ≡ true) (masked_ids marks ids)
masked-ends ends [] ids are = tt
masked-ends ends (m ∷ marks) [] are = tt
masked-ends ends (true ∷ marks) (v ∷ ids) are = (are 0 (omega arith) refl, masked-ends ends marks ids (λ k within marked. are (suc k) (omega (arith, within)) marked))
masked-ends ends (false ∷ marks) (v ∷ ids) are = masked-ends ends marks ids (λ k within marked. are (suc k) (omega (arith, within)) marked)

or-true : (b : Bool) → b || true ≡ true
or-true true = refl
or-true false = refl

itself : (v : Vid) → is_same_id v v ≡ true
itself v = (eq_by_cmp_equiv id_cmp-total).refl v

module _ (ids : List Vid) (rows : List (List Value)) where
  set-cases : (marks : List Bool) (n k : ℕ) → get_or (set marks n true) k false ≡ true → (k ≡ n) ⊎ (get_or marks k false ≡ true)
  set-cases marks n k marked =
      elim (cases_eq k n) [
        | inl here ↦ inl here
        | inr apart ↦ inr (sym (get_or-set_other marks n k true false apart) ∙ marked)
      ]

  marks-are-ends : (ends : List Vid) (marks : List Bool) (edges : List LocalEdge)
      → MarksAreEnds ends marks ids → ((v : Vid) → has_id v (sources_and_destinations (edges_of_locals ids rows edges)) ≡ true → has_id v ends ≡ true)
      → MarksAreEnds ends (with_marks marks edges) ids
  marks-are-ends ends marks [] are known = are
  marks-are-ends ends marks (e ∷ edges) are known =
      let rest = sources_and_destinations (edges_of_locals ids rows edges) in
      let src = id_of_number ids e.src in
      let dst = id_of_number ids e.dst in
      let src_known : has_id src ends ≡ true = known src (ap (λ b. b || (is_same_id src dst || has_id src rest)) (itself src)) in
      let dst_known : has_id dst ends ≡ true = known dst (ap (λ b. is_same_id dst src || (b || has_id dst rest)) (itself dst) ∙ or-true (is_same_id dst src)) in
      marks-are-ends ends (set (set marks e.src true) e.dst true) edges
      (λ k within marked. elim (set-cases (set marks e.src true) e.dst k marked) [
        | inl here ↦ ap (λ n. has_id (id_of_number ids n) ends) here ∙ dst_known
        | inr before ↦ elim (set-cases marks e.src k before) [
          | inl first ↦ ap (λ n. has_id (id_of_number ids n) ends) first ∙ src_known
          | inr old ↦ are k within old
        ]
      ])
      (λ v there. known v (ap (λ b. is_same_id v src || (is_same_id v dst || b)) there ∙ ap (λ b. is_same_id v src || b) (or-true (is_same_id v dst)) ∙ or-true (is_same_id v src)))

none-marked : (n k : ℕ) → get_or (replicate n false) k false ≡ false
none-marked zero k = refl
none-marked (suc n) zero = refl
none-marked (suc n) (suc k) = none-marked n k

-- ---- a set from two inclusions

has-true : (v : Vid) (ids ends : List Vid) → AllByRecursion (λ w. has_id w ends ≡ true) ids → has_id v ids ≡ true → has_id v ends ≡ true
has-true v [] ends all there = cc
has-true v (w ∷ ids) ends all there = by (is_same_id v w) refl (has-true v ids ends all.1) there
  where
    by : (b : Bool) → is_same_id v w ≡ b → (has_id v ids ≡ true → has_id v ends ≡ true) → b || has_id v ids ≡ true → has_id v ends ≡ true
    by true same rest e = ap (λ u. has_id u ends) (id_cmp-exact v w ((Equal-is (id_cmp v w)).0 same)) ∙ all.0
    by false apart rest e = rest e

both_ways : (b c : Bool) → (b ≡ true → c ≡ true) → (c ≡ true → b ≡ true) → b ≡ c
both_ways true c there back = sym (there refl)
both_ways false true there back = back refl
both_ways false false there back = refl

edges-known : (edges : List Edge) (ids : List Vid) → AllByRecursion (λ e. (has_id e.0 ids ≡ true) × (has_id e.1 ids ≡ true)) edges → AllByRecursion (λ w. has_id w ids ≡ true) (sources_and_destinations edges)
edges-known [] ids all = tt
edges-known (e ∷ edges) ids all = (all.0.0, (all.0.1, edges-known edges ids all.1))

-- ---- edges that are left

module _ (ids : List Vid) (rows : List (List Value)) (edges : List LocalEdge) (known : All (IsInRange ids rows) edges) where
  abbrev marks : List Bool
  marks = marked_by (length ids) edges

  in_range : AllByRecursion (IsInRange ids rows) edges
  in_range = recursion_from_All (IsInRange ids rows) edges known

  numbers-known : (es : List LocalEdge) → AllByRecursion (IsInRange ids rows) es → AllByRecursion (HasNumbers (length (replicate (length ids) false))) es
  numbers-known [] all = tt
  numbers-known (e ∷ es) all = ((rw (length-replicate (length ids) false) all.0.0, rw (length-replicate (length ids) false) all.0.1), numbers-known es all.1)

  marked : AllByRecursion (HasMarks marks) edges
  marked = ends-marked (replicate (length ids) false) edges (numbers-known edges in_range)

  pub edges-anew : edges_of_locals (masked_ids marks ids) rows (map (renumbered (numbers_anew 0 marks)) edges) ≡ edges_of_locals ids rows edges
  edges-anew = anew-edges ids marks rows edges in_range marked

  ends-left : (es : List LocalEdge) → AllByRecursion (IsInRange ids rows) es → AllByRecursion (HasMarks marks) es
      → AllByRecursion (λ e. (has_id e.0 (masked_ids marks ids) ≡ true) × (has_id e.1 (masked_ids marks ids) ≡ true)) (edges_of_locals ids rows es)
  ends-left [] all found = tt
  ends-left (e ∷ es) all found = ((there e.src all.0.0 found.0.0, there e.dst all.0.1 found.0.1), ends-left es all.1 found.1)
    where
      there : (k : ℕ) → k < length ids → get_or marks k false ≡ true → has_id (id_of_number ids k) (masked_ids marks ids) ≡ true
      there k within mark =
          let n = get_or (numbers_anew 0 marks) k 0 in
          let at = id-anew ids marks k within mark in
          list_any_at (is_same_id (id_of_number ids k)) (masked_ids marks ids) n (id_of_number ids k) (slice_get_within (masked_ids marks ids) n (id_of_number ids k) at)
          (ap (is_same_id (id_of_number ids k)) (get_or_from_slice_get (masked_ids marks ids) n (id_of_number ids k) (id_of_number ids k) at) ∙ itself (id_of_number ids k))

  IsSetOf-anew : IsAscending ids → IsSetOf (sources_and_destinations (edges_of_locals ids rows edges)) (masked_ids marks ids)
  IsSetOf-anew ascending =
      let ends = sources_and_destinations (edges_of_locals ids rows edges) in
      let no_marks : MarksAreEnds ends (replicate (length ids) false) ids = λ k within mark. let none = none-marked (length ids) k in cc in
      let are = masked-ends ends marks ids (marks-are-ends ids rows ends (replicate (length ids) false) edges no_marks (λ v there. there)) in record {
        ascending = IsAscending-masked_ids marks ids ascending;
        exact = λ v. both_ways (has_id v (masked_ids marks ids)) (has_id v ends) (has-true v (masked_ids marks ids) ends are)
            (has-true v ends (masked_ids marks ids) (edges-known (edges_of_locals ids rows edges) (masked_ids marks ids) (ends-left edges in_range marked)));
      }

  pub HasEdges-anew : IsAscending ids → length edges < 2 ^ 32 → IsSorted edge_cmp (edges_of_locals ids rows edges) → HasEdges (masked_ids marks ids) rows (map (renumbered (numbers_anew 0 marks)) edges)
  HasEdges-anew ascending few sorted = record {
    few = omega (arith, few, length-map edges (renumbered (numbers_anew 0 marks)));
    in_range = All-from_recursion (IsInRange (masked_ids marks ids) rows) (map (renumbered (numbers_anew 0 marks)) edges) (anew-in_range ids marks rows edges in_range marked);
    sorted = rw edges-anew sorted;
    exact = rw edges-anew (IsSetOf-anew ascending);
  }

-- ---- lengths

pub length-numbers_anew : (n : ℕ) (marks : List Bool) → length (numbers_anew n marks) ≡ length marks
length-numbers_anew n [] = refl
length-numbers_anew n (true ∷ marks) = ap suc (length-numbers_anew (n + 1) marks)
length-numbers_anew n (false ∷ marks) = ap suc (length-numbers_anew n marks)

pub length-left : (marks : List Bool) (ids : List Vid) → length (masked_ids marks ids) ≤ length ids
length-left [] ids = omega arith
length-left (m ∷ marks) [] = omega arith
length-left (true ∷ marks) (v ∷ ids) = omega (arith, length-left marks ids)
length-left (false ∷ marks) (v ∷ ids) = omega (arith, length-left marks ids)
