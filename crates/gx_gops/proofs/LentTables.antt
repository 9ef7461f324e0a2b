-- Tables of items that are seen as vertices: what a stable sort and `dedup` leave, and what a check of their order says.
use Rattle.std.proofs.Common.{◌≡◌, ℕ, not, ◌&&◌, suc, ◌+◌, ◌<◌, Bool, true, false, cond, List, [], ◌∷◌, Option, None, Some, length, get_or, map, zip, refl, sym, ap, ◌∙◌, subst, ◌⊎◌, inl, inr}
use Rattle.std.specs.Bool.{MatchBool}
use Rattle.std.specs.Cmp.{Equal-is}
use Rattle.std.specs.List.{AllAdjacentBelow, AllByRecursion, dedup, dedup_from, filter}
use Rattle.std.specs.List.Sorted.{IsSortedByKey, IsStableByKey, IsStrictlySortedBy, ties}
use Rattle.std.specs.Map.{keys_of, values_of}
use Rattle.std.specs.Ordering.{is_eq, is_lt, ordering_reverse}
use Rattle.std.specs.declared.cmp.Ordering.{Ordering}
use Rattle.std.specs.declared.cmp.Ordering.TheVariants.{Less, Equal, Greater}
use Rattle.std.proofs.Math.ListN.{get_or-map}
use Rattle.std.proofs.lemmas.Cmp.{on_total}
use Rattle.std.proofs.lemmas.List.{length-map}
use Rattle.std.proofs.lemmas.List.Kept.{IsStrictlySortedBy-dedup}
use Rattle.std.proofs.lemmas.Map.Keys.{sorted_from_all_adjacent}
use Rattle.gx_rows.specs.declared.value.Value.{Value}
use Rattle.gx_rows.specs.declared.vid.Vid.{Vid}
use Rattle.gx_index.specs.Ids.{IsAscending, id_cmp, id_cmp-exact, id_cmp-total, is_same_id}
use Rattle.gx_vpart.specs.LentRows.{vertices_lent}
use Rattle.gx_vpart.specs.Operators.{VertexRow, row_at}
use Rattle.gx_gops.specs.TableLaws.{table_of-unique}
use Rattle.gx_gops.specs.Tables.{table_of}
use denote.Ref.{Bor}

is_less : (r : Ordering) → true ≡ is_lt r → r ≡ Less
is_less Less e = refl
is_less Equal e = cc
is_less Greater e = cc

abbrev first_of : List VertexRow → Option (List Value)
first_of [] = None
first_of (r ∷ rs) = Some r.1

-- ---- rows without the later ones of each identifier

abbrev has_same_id : VertexRow → VertexRow → Bool
has_same_id r s = is_same_id r.0 s.0

first_counts : {X : Type 0} (t : Bool) (x y : X) (u : Option X) → cond t (Some x) (cond t (Some y) u) ≡ cond t (Some x) u
first_counts true x y u = refl
first_counts false x y u = refl

row_at-dedup_from : (q : Vid) (k : VertexRow) (rs : List VertexRow) → row_at q (dedup_from has_same_id k rs) ≡ row_at q (k ∷ rs)
row_at-dedup_from q k [] = refl
row_at-dedup_from q k (r ∷ rs) = by (has_same_id r k) refl (row_at-dedup_from q k rs) (row_at-dedup_from q r rs)
  where
    by : (b : Bool) → has_same_id r k ≡ b
        → row_at q (dedup_from has_same_id k rs) ≡ row_at q (k ∷ rs)
        → row_at q (dedup_from has_same_id r rs) ≡ row_at q (r ∷ rs)
        → row_at q (cond b (dedup_from has_same_id k rs) (k ∷ dedup_from has_same_id r rs)) ≡ row_at q (k ∷ r ∷ rs)
    by true e gone kept =
        let key : r.0 ≡ k.0 = id_cmp-exact r.0 k.0 ((Equal-is (id_cmp r.0 k.0)).0 e) in
        gone ∙ sym (ap (λ v. cond (is_same_id q k.0) (Some k.1) (cond (is_same_id q v) (Some r.1) (row_at q rs))) key ∙ first_counts (is_same_id q k.0) k.1 r.1 (row_at q rs))
    by false e gone kept = ap (λ u. cond (is_same_id q k.0) (Some k.1) u) kept

row_at-dedup : (q : Vid) (rs : List VertexRow) → row_at q (dedup has_same_id rs) ≡ row_at q rs
row_at-dedup q [] = refl
row_at-dedup q (r ∷ rs) = row_at-dedup_from q r rs

ties_are_same : (v w : Vid) → not (is_lt (id_cmp v w)) && not (is_lt (id_cmp w v)) ≡ is_same_id v w
ties_are_same v w = ap (λ r. not (is_lt (id_cmp v w)) && not (is_lt r)) (id_cmp-total.antisymm w v) ∙ by (id_cmp v w)
  where
    by : (r : Ordering) → not (is_lt r) && not (is_lt (ordering_reverse r)) ≡ is_eq r
    by Less = refl
    by Equal = refl
    by Greater = refl

-- ---- items that are seen as vertices

module _ {X : Type 0} (seen : X → VertexRow) where
  abbrev same_id : X → X → Bool
  same_id x y = is_same_id (seen x).0 (seen y).0

  keys-seen : (xs : List X) → keys_of (map seen xs) ≡ map (λ x. (seen x).0) xs
  keys-seen [] = refl
  keys-seen (x ∷ xs) = ap (λ ks. (seen x).0 ∷ ks) (keys-seen xs)

  -- ---- a check that each identifier is less than the next

  IsAscending-from_adjacent : (xs : List X) → AllAdjacentBelow (λ x y. true ≡ is_lt (id_cmp (seen x).0 (seen y).0)) xs (length xs) → IsAscending (map (λ x. (seen x).0) xs)
  unfolding IsStrictlySortedBy
  IsAscending-from_adjacent [] less = tt
  IsAscending-from_adjacent (x ∷ xs) less =
      let key = λ (y : X). (seen y).0 in
      sorted_from_all_adjacent id_cmp-total (map key (x ∷ xs)) (key x)
      (λ k within. ap (λ v. id_cmp v (get_or (map key (x ∷ xs)) (k + 1) (key x))) (get_or-map key (x ∷ xs) k x)
      ∙ ap (λ v. id_cmp (key (get_or (x ∷ xs) k x)) v) (get_or-map key (x ∷ xs) (k + 1) x)
      ∙ is_less (id_cmp (key (get_or (x ∷ xs) k x)) (key (get_or (x ∷ xs) (k + 1) x)))
      (less k x (subst (λ n. k + 1 < n) (length-map (x ∷ xs) key) within)))

  -- what the answer of the check says
  pub ascending-if_sorted : (xs : List X) (answer : Bool) (apart : Type 0)
      → MatchBool answer (AllAdjacentBelow (λ x y. true ≡ is_lt (id_cmp (seen x).0 (seen y).0)) xs (length xs)) apart → answer ≡ true → IsAscending (keys_of (map seen xs))
  ascending-if_sorted xs true apart cases e = subst IsAscending (sym (keys-seen xs)) (IsAscending-from_adjacent xs cases)
  ascending-if_sorted xs false apart cases e = cc

  -- ---- the first item of each identifier

  seen-dedup_from : (k : X) (xs : List X) → map seen (dedup_from same_id k xs) ≡ dedup_from has_same_id (seen k) (map seen xs)
  seen-dedup_from k [] = refl
  seen-dedup_from k (x ∷ xs) = by (same_id x k) (seen-dedup_from k xs) (seen-dedup_from x xs)
    where
      by : (b : Bool) → map seen (dedup_from same_id k xs) ≡ dedup_from has_same_id (seen k) (map seen xs) → map seen (dedup_from same_id x xs) ≡ dedup_from has_same_id (seen x) (map seen xs)
          → map seen (cond b (dedup_from same_id k xs) (k ∷ dedup_from same_id x xs)) ≡ cond b (dedup_from has_same_id (seen k) (map seen xs)) (seen k ∷ dedup_from has_same_id (seen x) (map seen xs))
      by true gone kept = gone
      by false gone kept = ap (λ vs. seen k ∷ vs) kept

  seen-dedup : (xs : List X) → map seen (dedup same_id xs) ≡ dedup has_same_id (map seen xs)
  seen-dedup [] = refl
  seen-dedup (x ∷ xs) = seen-dedup_from x xs

  first_by_filter : (p : X → Bool) (q : Vid) → ((x : X) → p x ≡ is_same_id q (seen x).0) → (xs : List X) → row_at q (map seen xs) ≡ first_of (map seen (filter p xs))
  first_by_filter p q h [] = refl
  first_by_filter p q h (x ∷ xs) = by (is_same_id q (seen x).0) (h x) (first_by_filter p q h xs)
    where
      by : (b : Bool) → p x ≡ b → row_at q (map seen xs) ≡ first_of (map seen (filter p xs))
          → cond b (Some (seen x).1) (row_at q (map seen xs)) ≡ first_of (map seen (cond (p x) (x ∷ filter p xs) (filter p xs)))
      by true e more = rw e refl
      by false e more = rw e more

  -- an item of an identifier, or else no row of it
  abbrev FindsItem : Vid → List X → Type 0
  FindsItem q xs = ((x : X) × (is_same_id q (seen x).0 ≡ true)) ⊎ (row_at q (map seen xs) ≡ None)

  finds_item : (q : Vid) (xs : List X) → FindsItem q xs
  finds_item q [] = inr refl
  finds_item q (x ∷ xs) = by (is_same_id q (seen x).0) refl (finds_item q xs)
    where
      by : (b : Bool) → is_same_id q (seen x).0 ≡ b → FindsItem q xs → ((y : X) × (is_same_id q (seen y).0 ≡ true)) ⊎ (cond b (Some (seen x).1) (row_at q (map seen xs)) ≡ None)
      by true e rest = inl (x, e)
      by false e (inl found) = inl found
      by false e (inr none) = inr none

  -- a stable sort leaves the first row of each identifier the first
  at_item : (q : Vid) (x : X) (xs ys : List X) → is_same_id q (seen x).0 ≡ true → IsStableByKey (λ y. (seen y).0) id_cmp xs ys → row_at q (map seen ys) ≡ row_at q (map seen xs)
  at_item q x xs ys same stable =
      let key : q ≡ (seen x).0 = id_cmp-exact q (seen x).0 ((Equal-is (id_cmp q (seen x).0)).0 same) in
      let tied = ties (λ (y z : X). is_lt (id_cmp (seen y).0 (seen z).0)) x in
      let test = λ (y : X). ties_are_same (seen x).0 (seen y).0 ∙ ap (λ v. is_same_id v (seen y).0) (sym key) in
      first_by_filter tied q test ys ∙ ap (λ zs. first_of (map seen zs)) (stable x) ∙ sym (first_by_filter tied q test xs)

  row_at-stable : (q : Vid) (xs ys : List X) → IsStableByKey (λ y. (seen y).0) id_cmp xs ys → row_at q (map seen ys) ≡ row_at q (map seen xs)
  row_at-stable q xs ys stable = by (finds_item q ys) (finds_item q xs)
    where
      by : FindsItem q ys → FindsItem q xs → row_at q (map seen ys) ≡ row_at q (map seen xs)
      by (inl found) other = at_item q found.0 xs ys found.1 stable
      by (inr none) (inl found) = at_item q found.0 xs ys found.1 stable
      by (inr none) (inr neither) = none ∙ sym neither

  keys_below : (v : Vid) (xs : List X) → AllByRecursion (λ y. id_cmp v (seen y).0 ≡ Less) xs → AllByRecursion (λ w. id_cmp v w ≡ Less) (keys_of (map seen xs))
  keys_below v [] all = tt
  keys_below v (x ∷ xs) all = (all.0, keys_below v xs all.1)

  keys_ascend : (xs : List X) → IsStrictlySortedBy (λ x y. id_cmp (seen x).0 (seen y).0) xs → IsAscending (keys_of (map seen xs))
  unfolding IsStrictlySortedBy
  keys_ascend [] s = tt
  keys_ascend (x ∷ xs) s = (keys_below (seen x).0 xs s.0, keys_ascend xs s.1)

  -- sorted by identifier, in a stable way, and without the later items of each identifier: the table
  pub table-seen : (xs ys : List X) → IsSortedByKey (λ x. (seen x).0) id_cmp ys → IsStableByKey (λ x. (seen x).0) id_cmp xs ys
      → map seen (dedup same_id ys) ≡ table_of (map seen xs)
  table-seen xs ys sorted stable =
      table_of-unique (map seen xs) (map seen (dedup same_id ys)) (record {
        ascending = keys_ascend (dedup same_id ys) (IsStrictlySortedBy-dedup (on_total (λ x. (seen x).0) id_cmp-total) (λ x y. refl) ys sorted);
        first_rows = λ q. ap (row_at q) (seen-dedup ys) ∙ row_at-dedup q (map seen ys) ∙ row_at-stable q xs ys stable;
      })

-- ---- rows that ascend

-- ascending rows are their own table
pub table_of-ascending : (rows : List VertexRow) → IsAscending (keys_of rows) → rows ≡ table_of rows
table_of-ascending rows ascending = table_of-unique rows rows (record { ascending = ascending; first_rows = λ id. refl })

-- ---- columns

pub zip-columns : (vertices : List VertexRow) → zip (keys_of vertices) (values_of vertices) ≡ vertices
zip-columns [] = refl
zip-columns (v ∷ vertices) = ap (λ vs. v ∷ vs) (zip-columns vertices)

pub length-keys : (vertices : List (Vid × Bor (List Value))) → length (keys_of (vertices_lent vertices)) ≡ length vertices
length-keys [] = refl
length-keys (v ∷ vertices) = ap (λ n. suc n) (length-keys vertices)

pub length-values : (vertices : List (Vid × Bor (List Value))) → length (values_of (vertices_lent vertices)) ≡ length vertices
length-values [] = refl
length-values (v ∷ vertices) = ap (λ n. suc n) (length-values vertices)
