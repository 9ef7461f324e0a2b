-- What merging keeps of the ends of edges.
use Rattle.std.proofs.Common.{◌≡◌, ◌+◌, ◌<◌, Bool, true, false, cond, ◌&&◌, ◌||◌, List, [], ◌∷◌, Some, IsSorted, IsSortedByKey, length, refl, sym, ap, ◌∙◌, arith}
use Rattle.std.specs.Cmp.{Equal-is}
use Rattle.std.specs.List.{AllByRecursion, dedup, dedup_from, list_any}
use Rattle.std.specs.List.Sorted.{IsPermutation}
use Rattle.std.specs.Map.{keys_of}
use Rattle.std.proofs.lemmas.Cmp.{eq_by_cmp_equiv}
use Rattle.std.proofs.lemmas.List.{get_or-map, length-map}
use Rattle.std.proofs.lemmas.List.Elements.{All-from_recursion, recursion_from_All}
use Rattle.std.proofs.lemmas.List.Kept.{IsStrictlySortedBy-dedup}
use Rattle.std.proofs.lemmas.List.Sorted.{All-permutation, list_any-IsPermutation}
use Rattle.std.proofs.lemmas.Map.Entries.{none_past_head}
use Rattle.std.proofs.lemmas.Map.Keys.{IsDistinct-tail}
use Rattle.gx_rows.specs.declared.sides.Sides.{Sides}
use Rattle.gx_rows.specs.declared.vid.Vid.{Vid}
use Rattle.gx_index.specs.Ends.{End, IsEndsOf, IsSetOf, sides_if_any, sides_of_end}
use Rattle.gx_index.specs.Ids.{HasDistinctIds, HasDistinctIds-from_ascending, IsAscending, has_id, id_cmp, id_cmp-exact, id_cmp-total, is_same_id}
use Rattle.gx_index.specs.Merging.{either_sides, end_entries, merged, merged_from, source_side}

-- ---- the identifiers

key-cond : (b : Bool) (es fs : List End) → keys_of (cond b es fs) ≡ cond b (keys_of es) (keys_of fs)
key-cond true es fs = refl
key-cond false es fs = refl

keys_of-merged_from : (last : End) (es : List End) → keys_of (merged_from last es) ≡ dedup_from is_same_id last.0 (keys_of es)
keys_of-merged_from last [] = refl
keys_of-merged_from last (e ∷ es) =
    key-cond (is_same_id e.0 last.0) _ _
    ∙ (λ i. cond (is_same_id e.0 last.0) (keys_of-merged_from (last.0, either_sides last.1 e.1) es i) (last.0 ∷ keys_of-merged_from e es i))

keys_of-merged : (es : List End) → keys_of (merged es) ≡ dedup is_same_id (keys_of es)
keys_of-merged [] = refl
keys_of-merged (e ∷ es) = keys_of-merged_from e es

sorted_keys : (es : List End) → IsSortedByKey (λ e. e.0) id_cmp es → IsSorted id_cmp (keys_of es)
sorted_keys es sorted k d low high =
    let next : k + 1 < length es = rw length-map at high in
    let before : k < length es = omega arith in
    rw (get_or-map (λ e. e.0) es k (d, source_side) d before, get_or-map (λ e. e.0) es (k + 1) (d, source_side) d next) (sorted k (d, source_side) low next)

pub IsAscending-merged : (es : List End) → IsSortedByKey (λ e. e.0) id_cmp es → IsAscending (keys_of (merged es))
IsAscending-merged es sorted = rw keys_of-merged (IsStrictlySortedBy-dedup id_cmp-total (λ v w. refl) (keys_of es) (sorted_keys es sorted))

-- ---- the sides of an identifier

-- whether the entry is of the identifier, on a side
abbrev is_on : (Sides → Bool) → Vid → End → Bool
is_on side v e = is_same_id v e.0 && side e.1

or-and : (a x y z : Bool) → (a && (x || y)) || z ≡ (a && x) || ((a && y) || z)
or-and false x y z = refl
or-and true false y z = refl
or-and true true y z = refl

module _ (side : Sides → Bool) (either : (a b : Sides) → side (either_sides a b) ≡ side a || side b) (v : Vid) where
  any-merged_from : (last : End) (es : List End) → list_any (is_on side v) (merged_from last es) ≡ is_on side v last || list_any (is_on side v) es
  any-merged_from last [] = refl
  any-merged_from last (e ∷ es) = by (is_same_id e.0 last.0) refl (any-merged_from (last.0, either_sides last.1 e.1) es) (any-merged_from e es)
    where
      by : (b : Bool) → is_same_id e.0 last.0 ≡ b
          → list_any (is_on side v) (merged_from (last.0, either_sides last.1 e.1) es) ≡ is_on side v (last.0, either_sides last.1 e.1) || list_any (is_on side v) es
          → list_any (is_on side v) (merged_from e es) ≡ is_on side v e || list_any (is_on side v) es
          → list_any (is_on side v) (cond b (merged_from (last.0, either_sides last.1 e.1) es) (last ∷ merged_from e es)) ≡ is_on side v last || (is_on side v e || list_any (is_on side v) es)
      by true same joined apart =
          let key : e.0 ≡ last.0 = id_cmp-exact e.0 last.0 ((Equal-is (id_cmp e.0 last.0)).0 same) in
          joined
          ∙ ap (λ s. (is_same_id v last.0 && s) || list_any (is_on side v) es) (either last.1 e.1)
          ∙ or-and (is_same_id v last.0) (side last.1) (side e.1) (list_any (is_on side v) es)
          ∙ ap (λ w. is_on side v last || ((is_same_id v w && side e.1) || list_any (is_on side v) es)) (sym key)
      by false same joined apart = ap (λ b. is_on side v last || b) apart

  pub any-merged : (es : List End) → list_any (is_on side v) (merged es) ≡ list_any (is_on side v) es
  any-merged [] = refl
  any-merged (e ∷ es) = any-merged_from e es

-- ---- each entry has a side

abbrev HasSide : End → Type 0
HasSide e = e.1.src || e.1.dst ≡ true

side-either : (a b : Sides) → a.src || a.dst ≡ true → (either_sides a b).src || (either_sides a b).dst ≡ true
side-either a b some = by a.src a.dst b.src b.dst some
  where
    by : (p q r s : Bool) → p || q ≡ true → (p || r) || (q || s) ≡ true
    by true q r s some = refl
    by false true true s some = refl
    by false true false s some = refl
    by false false r s some = cc

HasSide-merged_from : (last : End) (es : List End) → HasSide last → AllByRecursion HasSide es → AllByRecursion HasSide (merged_from last es)
HasSide-merged_from last [] first rest = (first, tt)
HasSide-merged_from last (e ∷ es) first rest =
    by (is_same_id e.0 last.0) (HasSide-merged_from (last.0, either_sides last.1 e.1) es (side-either last.1 e.1 first) rest.1) (HasSide-merged_from e es rest.0 rest.1)
  where
    by : (b : Bool) → AllByRecursion HasSide (merged_from (last.0, either_sides last.1 e.1) es) → AllByRecursion HasSide (merged_from e es)
        → AllByRecursion HasSide (cond b (merged_from (last.0, either_sides last.1 e.1) es) (last ∷ merged_from e es))
    by true joined apart = joined
    by false joined apart = (first, apart)

HasSide-merged : (es : List End) → AllByRecursion HasSide es → AllByRecursion HasSide (merged es)
HasSide-merged [] all = tt
HasSide-merged (e ∷ es) all = HasSide-merged_from e es all.0 all.1

HasSide-end_entries : (edges : List (Vid × Vid)) → AllByRecursion HasSide (end_entries edges)
HasSide-end_entries [] = tt
HasSide-end_entries (e ∷ edges) = (refl, (refl, HasSide-end_entries edges))

-- ---- a look-up gives the sides

none_on : (side : Sides → Bool) (v : Vid) (es : List End) → AllByRecursion (λ e. is_same_id v e.0 ≡ false) es → list_any (is_on side v) es ≡ false
none_on side v [] none = refl
none_on side v (e ∷ es) none = rw none.0 (none_on side v es none.1)

or-nil : (b : Bool) → b || false ≡ b
or-nil true = refl
or-nil false = refl

pub sides_if_any-is : (s : Sides) → s.src || s.dst ≡ true → Some s ≡ sides_if_any s.src s.dst
sides_if_any-is s some = by s.src s.dst some
  where
    by : (p q : Bool) → p || q ≡ true → Some (record { src = p; dst = q }) ≡ sides_if_any p q
    by true q some = refl
    by false true some = refl
    by false false some = cc

lookup-sides : (v : Vid) (es : List End) → HasDistinctIds (keys_of es) → AllByRecursion HasSide es
    → sides_of_end v es ≡ sides_if_any (list_any (is_on (λ s. s.src) v) es) (list_any (is_on (λ s. s.dst) v) es)
lookup-sides v [] distinct all = refl
lookup-sides v (e ∷ es) distinct all = by (is_same_id v e.0) refl (lookup-sides v es (IsDistinct-tail is_same_id e.0 (keys_of es) distinct) all.1)
  where
    by : (b : Bool) → is_same_id v e.0 ≡ b
        → sides_of_end v es ≡ sides_if_any (list_any (is_on (λ s. s.src) v) es) (list_any (is_on (λ s. s.dst) v) es)
        → cond b (Some e.1) (sides_of_end v es) ≡ sides_if_any ((b && e.1.src) || list_any (is_on (λ s. s.src) v) es) ((b && e.1.dst) || list_any (is_on (λ s. s.dst) v) es)
    by true same more =
        let none = none_past_head (eq_by_cmp_equiv id_cmp-total) v e es distinct same in
        sides_if_any-is e.1 all.0
        ∙ (λ i. sides_if_any (sym (or-nil e.1.src) i) (sym (or-nil e.1.dst) i))
        ∙ (λ i. sides_if_any (e.1.src || sym (none_on (λ s. s.src) v es none) i) (e.1.dst || sym (none_on (λ s. s.dst) v es none) i))
    by false same more = more

-- ---- the entries of edges

or-drop : (a b c : Bool) → (a && true) || ((b && false) || c) ≡ a || c
or-drop true b c = refl
or-drop false true c = refl
or-drop false false c = refl

and-true : (a b c : Bool) → (a && false) || ((b && true) || c) ≡ b || c
and-true true true c = refl
and-true true false c = refl
and-true false true c = refl
and-true false false c = refl

any-sources : (v : Vid) (edges : List (Vid × Vid)) → list_any (is_on (λ s. s.src) v) (end_entries edges) ≡ list_any (λ e. is_same_id v e.0) edges
any-sources v [] = refl
any-sources v (e ∷ edges) = or-drop (is_same_id v e.0) (is_same_id v e.1) _ ∙ ap (λ b. is_same_id v e.0 || b) (any-sources v edges)

any-destinations : (v : Vid) (edges : List (Vid × Vid)) → list_any (is_on (λ s. s.dst) v) (end_entries edges) ≡ list_any (λ e. is_same_id v e.1) edges
any-destinations v [] = refl
any-destinations v (e ∷ edges) = and-true (is_same_id v e.0) (is_same_id v e.1) _ ∙ ap (λ b. is_same_id v e.1 || b) (any-destinations v edges)

-- entries in any order that are sorted and then merged are the ends
pub IsEndsOf-merged : (edges : List (Vid × Vid)) (sorted : List End) → IsPermutation (end_entries edges) sorted → IsSortedByKey (λ e. e.0) id_cmp sorted → IsEndsOf edges (merged sorted)
IsEndsOf-merged edges sorted same order =
    let ascending = IsAscending-merged sorted order in
    let some = recursion_from_All HasSide sorted (All-permutation HasSide (end_entries edges) sorted same (All-from_recursion HasSide (end_entries edges) (HasSide-end_entries edges))) in
    record {
      ascending = ascending;
      exact = λ v.
          lookup-sides v (merged sorted) (HasDistinctIds-from_ascending _ ascending) (HasSide-merged sorted some)
          ∙ (λ i. sides_if_any (any-merged (λ s. s.src) (λ a b. refl) v sorted i) (any-merged (λ s. s.dst) (λ a b. refl) v sorted i))
          ∙ (λ i. sides_if_any (sym (list_any-IsPermutation (is_on (λ s. s.src) v) (end_entries edges) sorted same) i) (sym (list_any-IsPermutation (is_on (λ s. s.dst) v) (end_entries edges) sorted same) i))
          ∙ (λ i. sides_if_any (any-sources v edges i) (any-destinations v edges i));
    }

-- ---- sets

twice : (t c : Bool) → t || (t || c) ≡ t || c
twice true c = refl
twice false c = refl

has_id-dedup_from : (v w : Vid) (ids : List Vid) → has_id v (dedup_from is_same_id w ids) ≡ is_same_id v w || has_id v ids
has_id-dedup_from v w [] = refl
has_id-dedup_from v w (x ∷ ids) = by (is_same_id x w) refl (has_id-dedup_from v w ids) (has_id-dedup_from v x ids)
  where
    by : (b : Bool) → is_same_id x w ≡ b
        → has_id v (dedup_from is_same_id w ids) ≡ is_same_id v w || has_id v ids
        → has_id v (dedup_from is_same_id x ids) ≡ is_same_id v x || has_id v ids
        → has_id v (cond b (dedup_from is_same_id w ids) (w ∷ dedup_from is_same_id x ids)) ≡ is_same_id v w || (is_same_id v x || has_id v ids)
    by true same joined apart =
        let key : x ≡ w = id_cmp-exact x w ((Equal-is (id_cmp x w)).0 same) in
        joined ∙ sym (twice (is_same_id v w) (has_id v ids)) ∙ ap (λ y. is_same_id v w || (is_same_id v y || has_id v ids)) (sym key)
    by false same joined apart = ap (λ c. is_same_id v w || c) apart

has_id-dedup : (v : Vid) (ids : List Vid) → has_id v (dedup is_same_id ids) ≡ has_id v ids
has_id-dedup v [] = refl
has_id-dedup v (w ∷ ids) = has_id-dedup_from v w ids

-- identifiers in any order that are sorted, with one of each kept, are the set
pub IsSetOf-dedup : (ids sorted : List Vid) → IsPermutation ids sorted → IsSorted id_cmp sorted → IsSetOf ids (dedup is_same_id sorted)
IsSetOf-dedup ids sorted same order = record {
  ascending = IsStrictlySortedBy-dedup id_cmp-total (λ v w. refl) sorted order;
  exact = λ v. has_id-dedup v sorted ∙ sym (list_any-IsPermutation (is_same_id v) ids sorted same);
}
