-- The order of edges, and what keeps it.
use Rattle.std.specs.Prelude.{⊤}
use Rattle.std.proofs.Common.{
  ◌≡◌,
  ℕ,
  zero,
  suc,
  ◌+◌,
  ◌<◌,
  ◌≤◌,
  Bool,
  true,
  false,
  List,
  [],
  ◌∷◌,
  All,
  IsSorted,
  IsSortedBy,
  get_or,
  length,
  map,
  refl,
  ap,
  ◌∙◌,
  arith,
  pos,
}
use Rattle.std.specs.Cmp.{IsStrictWeakOrder}
use Rattle.std.specs.List.{AllByRecursion}
use Rattle.std.specs.Ordering.{
  MatchOrdering,
  nat_cmp,
  is_lt,
  ordering_reverse,
  ordering_then,
  on,
  then_cmp,
}
use Rattle.std.specs.declared.cmp.Ordering.{Ordering}
use Rattle.std.specs.declared.cmp.Ordering.TheVariants.{Less, Equal, Greater}
use Rattle.std.proofs.lemmas.Cmp.{ranked, tied_itself}
use Rattle.std.proofs.lemmas.List.{get_or-map, length-map}
use Rattle.std.proofs.lemmas.List.Elements.{All-from_recursion, recursion_from_All}
use Rattle.std.proofs.lemmas.List.MinMax.{ranks_by}
use Rattle.std.proofs.lemmas.List.Sorted.{sorted_far}
use Rattle.std.proofs.lemmas.Map.Keys.{Less-from_sorted}
use Rattle.gx_rows.specs.Order.{Edge, edge_cmp, edge_cmp-total, row_cmp}
use Rattle.gx_rows.specs.declared.value.Value.{Value}
use Rattle.gx_rows.specs.declared.vid.Vid.{Vid}
use Rattle.gx_index.specs.Ids.{IsAscending, id_cmp, id_cmp-total}
use Rattle.gx_epart.specs.Edges.{edges_kept}
use Rattle.gx_epart.specs.Numbers.{HasIds, edge_of_numbers, id_of_number}

-- ---- numbers are in the order of their identifiers

cmp-less : (ids : List Vid) (a b : ℕ) → IsAscending ids → a < b → b < length ids
    → id_cmp (id_of_number ids a) (id_of_number ids b) ≡ Less
cmp-less ids a b ascending less within =
    Less-from_sorted id_cmp ids a b (record { 0 = pos 0 }) ascending less within

by_order : (a b : ℕ) (r : Ordering) → (a < b → r ≡ Less) → (a ≡ b → r ≡ Equal)
    → (b < a → r ≡ Greater) → r ≡ nat_cmp a b
by_order a b r less equal greater = by (nat_cmp a b) (ranked a b (nat_cmp a b) refl)
  where
    by : (o : Ordering) → MatchOrdering o (a < b) (a ≡ b) (b < a) → r ≡ o
    by Less h = less h
    by Equal h = equal h
    by Greater h = greater h

pub cmp-numbers : (ids : List Vid) (a b : ℕ) → IsAscending ids → a < length ids → b < length ids
    → id_cmp (id_of_number ids a) (id_of_number ids b) ≡ nat_cmp a b
cmp-numbers ids a b ascending left right =
    by_order a b (id_cmp (id_of_number ids a) (id_of_number ids b))
    (λ less. cmp-less ids a b ascending less right)
    (λ same. rw same (tied_itself id_cmp-total (id_of_number ids b)))
    (λ greater. id_cmp-total.antisymm (id_of_number ids a) (id_of_number ids b)
    ∙ ap ordering_reverse (cmp-less ids b a ascending greater left))

-- ---- edges with numbers

-- by the number of the source, then of the destination, then by row
abbrev pub numbered_cmp : ℕ × ℕ × List Value → ℕ × ℕ × List Value → Ordering
numbered_cmp = then_cmp (then_cmp (on (λ e. e.0) nat_cmp) (on (λ e. e.1) nat_cmp))
    (on (λ e. e.2) row_cmp)

pub then-assoc : (r s t : Ordering)
    → ordering_then r (ordering_then s t) ≡ ordering_then (ordering_then r s) t
then-assoc Less s t = refl
then-assoc Equal s t = refl
then-assoc Greater s t = refl

cmp-edge_of_numbers : (ids : List Vid) (x y : ℕ × ℕ × List Value) → IsAscending ids → HasIds ids x
    → HasIds ids y
    → edge_cmp (edge_of_numbers ids x) (edge_of_numbers ids y) ≡ numbered_cmp x y
cmp-edge_of_numbers ids x y ascending known_x known_y =
    rw (
      cmp-numbers ids x.0 y.0 ascending known_x.0 known_y.0,
      cmp-numbers ids x.1 y.1 ascending known_x.1 known_y.1,
    )
    (then-assoc (nat_cmp x.0 y.0) (nat_cmp x.1 y.1) (row_cmp x.2 y.2))

pub IsSorted-edge_of_numbers : (ids : List Vid) (es : List (ℕ × ℕ × List Value)) → IsAscending ids
    → All (HasIds ids) es → IsSorted numbered_cmp es
    → IsSorted edge_cmp (map (edge_of_numbers ids) es)
IsSorted-edge_of_numbers ids es ascending known sorted k d low high =
    let f = edge_of_numbers ids in
    let next : k + 1 < length es = rw length-map at high in
    let before : k < length es = omega arith in
    let e : ℕ × ℕ × List Value = (0, 0, []) in
    rw (get_or-map f es k e d before, get_or-map f es (k + 1) e d next)
    (ap is_lt (cmp-edge_of_numbers ids (get_or es (k + 1) e) (get_or es k e) ascending
    (known (k + 1) e next) (known k e before)) ∙ sorted k e low next)

-- ---- edges that are kept

kept-All : {X : Type 0} (P : X → Type 0) (xs : List X) (keeps : List Bool) → AllByRecursion P xs
    → AllByRecursion P (edges_kept xs keeps)
kept-All P [] keeps all = tt
kept-All P (x ∷ xs) [] all = tt
kept-All P (x ∷ xs) (true ∷ keeps) all = (all.0, kept-All P xs keeps all.1)
kept-All P (x ∷ xs) (false ∷ keeps) all = kept-All P xs keeps all.1

pub All-kept : {X : Type 0} (P : X → Type 0) (xs : List X) (keeps : List Bool) → All P xs
    → All P (edges_kept xs keeps)
All-kept P xs keeps all =
    All-from_recursion P (edges_kept xs keeps) (kept-All P xs keeps (recursion_from_All P xs all))

pub length-kept : {X : Type 0} (xs : List X) (keeps : List Bool)
    → length (edges_kept xs keeps) ≤ length xs
length-kept [] keeps = omega arith
length-kept (x ∷ xs) [] = omega arith
length-kept (x ∷ xs) (true ∷ keeps) = omega (arith, length-kept xs keeps)
length-kept (x ∷ xs) (false ∷ keeps) = omega (arith, length-kept xs keeps)

pub map-kept : {X Y : Type 0} (f : X → Y) (xs : List X) (keeps : List Bool)
    → map f (edges_kept xs keeps) ≡ edges_kept (map f xs) keeps
map-kept f [] keeps = refl
map-kept f (x ∷ xs) [] = refl
map-kept f (x ∷ xs) (true ∷ keeps) = ap (λ ys. f x ∷ ys) (map-kept f xs keeps)
map-kept f (x ∷ xs) (false ∷ keeps) = map-kept f xs keeps

-- no item is less than any before it
abbrev pub Rises : {X : Type 0} → (X → X → Bool) → List X → Type 0
Rises lt [] = ⊤
Rises lt (x ∷ xs) = AllByRecursion (λ y. lt y x ≡ false) xs × Rises lt xs

Rises-kept : {X : Type 0} (lt : X → X → Bool) (xs : List X) (keeps : List Bool) → Rises lt xs
    → Rises lt (edges_kept xs keeps)
Rises-kept lt [] keeps rises = tt
Rises-kept lt (x ∷ xs) [] rises = tt
Rises-kept lt (x ∷ xs) (true ∷ keeps) rises =
    (kept-All (λ y. lt y x ≡ false) xs keeps rises.0, Rises-kept lt xs keeps rises.1)
Rises-kept lt (x ∷ xs) (false ∷ keeps) rises = Rises-kept lt xs keeps rises.1

sorted-tail : {X : Type 0} (lt : X → X → Bool) (x : X) (xs : List X) → IsSortedBy lt (x ∷ xs)
    → IsSortedBy lt xs
sorted-tail lt x xs sorted k d low high =
    let next : k + 1 + 1 < length (x ∷ xs) = omega arith in
    let at = sorted (k + 1) d (omega arith) next in
    let one : k + 1 ≡ suc k = omega arith in
    let two : k + 1 + 1 ≡ suc (k + 1) = omega arith in
    let first : get_or (x ∷ xs) (k + 1) d ≡ get_or xs k d = ap (λ n. get_or (x ∷ xs) n d) one in
    let second : get_or (x ∷ xs) (k + 1 + 1) d ≡ get_or xs (k + 1) d =
    ap (λ n. get_or (x ∷ xs) n d) two in
    rw (first, second) at at

pub Rises-from_sorted : {X : Type 0} (lt : X → X → Bool) → IsStrictWeakOrder lt → (xs : List X)
    → IsSortedBy lt xs → Rises lt xs
Rises-from_sorted lt order [] sorted = tt
Rises-from_sorted lt order (x ∷ xs) sorted = (
  recursion_from_All (λ y. lt y x ≡ false) xs
      (λ k d within. sorted_far lt order (x ∷ xs) sorted 0 (suc k) d (omega arith) (omega arith)),
  Rises-from_sorted lt order xs (sorted-tail lt x xs sorted),
)

sorted_from_rises : {X : Type 0} (lt : X → X → Bool) (xs : List X) → Rises lt xs → IsSortedBy lt xs
sorted_from_rises lt [] rises k d low high = absurd (omega arith)
sorted_from_rises lt (x ∷ xs) rises zero d low high =
    let first : 0 < length xs = omega arith in
    All-from_recursion (λ y. lt y x ≡ false) xs rises.0 0 d first
sorted_from_rises lt (x ∷ xs) rises (suc k) d low high =
    let next : k + 1 < length xs = omega arith in
    let one : suc k + 1 ≡ suc (k + 1) = omega arith in
    rw one (sorted_from_rises lt xs rises.1 k d (omega arith) next)

pub IsSorted-kept : (edges : List Edge) (keeps : List Bool) → IsSorted edge_cmp edges
    → IsSorted edge_cmp (edges_kept edges keeps)
IsSorted-kept edges keeps sorted =
    let lt : Edge → Edge → Bool = λ x y. is_lt (edge_cmp x y) in
    sorted_from_rises lt (edges_kept edges keeps)
    (Rises-kept lt edges keeps
    (Rises-from_sorted lt (ranks_by edge_cmp-total (λ e. e)) edges sorted))
