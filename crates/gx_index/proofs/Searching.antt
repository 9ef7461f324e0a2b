-- What a search by halving finds in items that ascend by their identifier.
use Rattle.std.proofs.Common.{◌≡◌, ℕ, ◌+◌, ◌<◌, false, List, Option, Some, None, All, Contains, get_or, length, map, refl, sym, ap, ◌∙◌, subst, inl, inr, arith, Result, Ok, Err, is_ok}
use Rattle.std.specs.declared.cmp.Ordering.TheVariants.{Less, Equal, Greater}
use Rattle.std.specs.List.{HoldsAt}
use Rattle.std.specs.List.Sorted.{IsNonDecreasingBy, IsBinarySearchResult, IsPartitionPoint, IsPermutation, IsSearchInRange, IsSortedByKey}
use Rattle.std.specs.Map.{keys_of, lookup}
use Rattle.std.specs.Ordering.{is_eq, is_lt, ordering_index, ordering_reverse}
use Rattle.std.proofs.lemmas.Bool.{cases_lt}
use Rattle.std.proofs.lemmas.Cmp.{eq_by_cmp_equiv, tied_back}
use Rattle.std.proofs.lemmas.List.{get_or-map, length-map}
use Rattle.std.proofs.lemmas.List.Elements.{Contains-get_or, recursion_from_All}
use Rattle.std.proofs.lemmas.List.Folds.{list_any_at, list_any_none}
use Rattle.std.proofs.lemmas.Map.{lookup-none}
use Rattle.std.proofs.lemmas.Map.Entries.{lookup_from_place}
use Rattle.std.proofs.lemmas.Option.{slice_get_read}
use Rattle.std.proofs.lemmas.Map.Keys.{Less-from_sorted}
use Rattle.std.proofs.lemmas.List.Sorted.{All-permutation, Contains-permutation, IsPermutation-sym, searchable_from_sorted}
use Rattle.gx_rows.specs.declared.vid.Vid.{Vid}
use Rattle.gx_index.specs.Ids.{HasDistinctIds, IsAscending, id_cmp, id_cmp-exact, id_cmp-total, has_id, is_same_id}
use Rattle.gx_index.specs.Searching.{IsSearchResult}

pub is_same_id-less : (v w : Vid) → id_cmp w v ≡ Less → is_same_id v w ≡ false
is_same_id-less v w less = ap is_eq (id_cmp-total.antisymm v w ∙ ap ordering_reverse less)

pub is_same_id-greater : (v w : Vid) → id_cmp w v ≡ Greater → is_same_id v w ≡ false
is_same_id-greater v w greater = ap is_eq (id_cmp-total.antisymm v w ∙ ap ordering_reverse greater)

less_not_after : (v w : Vid) → id_cmp v w ≡ Less → is_lt (id_cmp w v) ≡ false
less_not_after v w less = ap is_lt (id_cmp-total.antisymm w v ∙ ap ordering_reverse less)

module _ {X : Type 0} (key : X → Vid) (v : Vid) (xs : List X) where
  -- no item has the identifier, if the search found none
  pub search-miss : (i : ℕ) → IsSortedByKey key id_cmp xs
      → (IsNonDecreasingBy (λ x. ordering_index (id_cmp (key x) v)) xs → IsPartitionPoint (λ x. id_cmp (key x) v ≡ Less) (λ x. id_cmp (key x) v ≡ Greater) xs i)
      → All (λ x. is_same_id v (key x) ≡ false) xs
  search-miss i sorted says k d within =
      let point = says (searchable_from_sorted id_cmp-total key xs v sorted) in
      elim (cases_lt k i) [ inl below ↦ is_same_id-less v (key (get_or xs k d)) (point.0 k d (omega arith) below) | inr from ↦ is_same_id-greater v (key (get_or xs k d)) (point.1 k d from within) ]

  -- items whose identifiers ascend are sorted by them
  pub sorted_by_key : IsAscending (map key xs) → IsSortedByKey key id_cmp xs
  sorted_by_key ascending k d low high =
      let before : k < length xs = omega arith in
      let next : k + 1 < length (map key xs) = rw length-map high in
      let less : id_cmp (get_or (map key xs) k (key d)) (get_or (map key xs) (k + 1) (key d)) ≡ Less
      = Less-from_sorted id_cmp (map key xs) k (k + 1) (key d) ascending (omega arith) next in
      let at = rw (get_or-map key xs k d (key d) before, get_or-map key xs (k + 1) d (key d) high) at less in
      less_not_after (key (get_or xs k d)) (key (get_or xs (k + 1) d)) at

-- the entry at which the search stopped has the identifier
pub IsSearchResult-hit : {T : Type 0} (entries : List (Vid × T)) (v : Vid) (i : ℕ) (e : Vid × T) → i < length entries → HoldsAt (λ x. id_cmp x.0 v ≡ Equal) entries i
    → Contains entries (v, (get_or entries i e).1)
IsSearchResult-hit entries v i e within at =
    let key = id_cmp-exact (get_or entries i e).0 v (at e) in
    subst (Contains entries) (λ j. (key j, (get_or entries i e).1)) (Contains-get_or entries i e within)

-- entries of which no two have one identifier: the search found what a look-up finds
pub lookup-IsSearchResult : {T : Type 0} (entries : List (Vid × T)) (v : Vid) (found : Option T) → HasDistinctIds (keys_of entries)
    → IsSearchResult entries v found → found ≡ lookup (is_same_id v) entries
lookup-IsSearchResult entries v (Some t) distinct contains =
    sym (lookup_from_place (eq_by_cmp_equiv id_cmp-total) entries contains.0 v t distinct (slice_get_read entries (length entries) contains.0 (v, t) refl contains.1 (sym contains.2)))
lookup-IsSearchResult entries v None distinct none = sym (lookup-none (is_same_id v) entries (recursion_from_All (λ e. is_same_id v e.0 ≡ false) entries none))

pub IsSearchResult-IsPermutation : {T : Type 0} (entries moved : List (Vid × T)) (v : Vid) (found : Option T) → IsPermutation entries moved → IsSearchResult moved v found → IsSearchResult entries v found
IsSearchResult-IsPermutation entries moved v (Some t) same contains = Contains-permutation moved entries (v, t) (IsPermutation-sym entries moved same) contains
IsSearchResult-IsPermutation entries moved v None same none = All-permutation (λ e. is_same_id v e.0 ≡ false) moved entries (IsPermutation-sym entries moved same) none

-- ascending identifiers are sorted
pub ascending_sorted : (ids : List Vid) → IsAscending ids → IsSortedByKey (λ w. w) id_cmp ids
ascending_sorted ids ascending k d low high = less_not_after (get_or ids k d) (get_or ids (k + 1) d) (Less-from_sorted id_cmp ids k (k + 1) d ascending (omega arith) high)

-- a search in ascending identifiers succeeds exactly if the identifier is there
pub has_id-searched : (v : Vid) (ids : List Vid) (r : Result ℕ ℕ) → IsAscending ids → IsSearchInRange r (length ids) → IsBinarySearchResult (λ w. id_cmp w v) ids r → is_ok r ≡ has_id v ids
has_id-searched v ids (Ok i) ascending within at =
    sym (list_any_at (is_same_id v) ids i v within (ap is_eq (tied_back id_cmp-total (get_or ids i v) v (at v))))
has_id-searched v ids (Err i) ascending within says =
    sym (list_any_none (is_same_id v) ids (search-miss (λ w. w) v ids i (ascending_sorted ids ascending) says))
