-- A walk over two ascending lists finds what look-ups find.
use Rattle.std.proofs.Common.{◌≡◌, Bool, true, false, cond, List, [], ◌∷◌, Option, Some, None, map, refl, sym, ap, ◌∙◌, All, ◌++◌, length, arith, subst, length-append}
use Rattle.std.specs.List.{AllByRecursion, filter, filter_map}
use Rattle.std.specs.Map.{keys_of}
use Rattle.std.specs.Ordering.{is_eq, is_lt, ordering_reverse}
use Rattle.std.specs.declared.cmp.Ordering.{Ordering}
use Rattle.std.specs.declared.cmp.Ordering.TheVariants.{Less, Equal, Greater}
use Rattle.std.proofs.lemmas.Cmp.{tied_back}
use Rattle.std.proofs.Math.Seq.{get_or-append_seam}
use Rattle.std.proofs.lemmas.Map.{lookup-none}
use Rattle.std.proofs.lemmas.Map.Entries.{none_below_head}
use Rattle.std.proofs.lemmas.Map.Keys.{sorted_head, sorted_tail}
use Rattle.gx_rows.specs.declared.vid.Vid.{Vid}
use Rattle.gx_index.specs.Ids.{IsAscending, id_cmp, id_cmp-total, is_same_id}
use Rattle.gx_vpart.specs.Joining.{rows_not_below}
use Rattle.gx_vpart.specs.Operators.{has_partner, ids_of_join, inner_join, left_join, picked, row_at, with_partner}

Less-from_lt : (r : Ordering) → is_lt r ≡ true → r ≡ Less
Less-from_lt Less lt = refl
Less-from_lt Equal lt = cc
Less-from_lt Greater lt = cc

-- a row below v is not the row of an identifier above v
apart-below : (w v x : Vid) → id_cmp w v ≡ Less → id_cmp v x ≡ Less → is_same_id x w ≡ false
apart-below w v x below above = ap is_eq (id_cmp-total.antisymm x w ∙ ap ordering_reverse (id_cmp-total.trans w v x below above))

row_at-rows_not_below : {R : Type 0} (v x : Vid) (rows : List (Vid × R)) → id_cmp v x ≡ Less → row_at x (rows_not_below v rows) ≡ row_at x rows
row_at-rows_not_below v x [] above = refl
row_at-rows_not_below v x (r ∷ rows) above = by (is_lt (id_cmp r.0 v)) refl (row_at-rows_not_below v x rows above)
  where
    by : (b : Bool) → is_lt (id_cmp r.0 v) ≡ b → row_at x (rows_not_below v rows) ≡ row_at x rows → row_at x (cond b (rows_not_below v rows) (r ∷ rows)) ≡ row_at x (r ∷ rows)
    by true lt more = let apart = apart-below r.0 v x (Less-from_lt (id_cmp r.0 v) lt) above in rw apart more
    by false from more = refl

pub left_join-rows_not_below : {R S : Type 0} (v : Vid) (xs : List (Vid × R)) (ys : List (Vid × S)) → AllByRecursion (λ x. id_cmp v x ≡ Less) (keys_of xs) → left_join xs (rows_not_below v ys) ≡ left_join xs ys
left_join-rows_not_below v [] ys above = refl
left_join-rows_not_below v (x ∷ xs) ys above = λ i. (x.0, x.1, row_at-rows_not_below v x.0 ys above.0 i) ∷ left_join-rows_not_below v xs ys above.1 i

-- the rows after the one at hand are joined with what was not passed over
pub left_join-next : {R S : Type 0} (x : Vid × R) (xs : List (Vid × R)) (ys : List (Vid × S)) → IsAscending (keys_of (x ∷ xs))
    → left_join (x ∷ xs) ys ≡ (x.0, x.1, row_at x.0 ys) ∷ left_join xs (rows_not_below x.0 ys)
left_join-next x xs ys ascending = ap (λ items. (x.0, x.1, row_at x.0 ys) ∷ items) (sym (left_join-rows_not_below x.0 xs ys (sorted_head id_cmp x.0 (keys_of xs) ascending)))

pub IsAscending-rows_not_below : {R : Type 0} (v : Vid) (rows : List (Vid × R)) → IsAscending (keys_of rows) → IsAscending (keys_of (rows_not_below v rows))
IsAscending-rows_not_below v [] ascending = ascending
IsAscending-rows_not_below v (r ∷ rows) ascending = by (is_lt (id_cmp r.0 v)) (IsAscending-rows_not_below v rows (sorted_tail id_cmp r.0 (keys_of rows) ascending))
  where
    by : (b : Bool) → IsAscending (keys_of (rows_not_below v rows)) → IsAscending (keys_of (cond b (rows_not_below v rows) (r ∷ rows)))
    by true more = more
    by false more = ascending

-- where the walk to v has come
pub record WalksTo {R : Type 0} (v : Vid) (rows now : List (Vid × R)) : Type 0 where
  pub ascending : IsAscending (keys_of now)
  pub found : row_at v now ≡ row_at v rows
  pub rest : rows_not_below v now ≡ rows_not_below v rows

pub WalksTo-start : {R : Type 0} (v : Vid) (rows : List (Vid × R)) → IsAscending (keys_of rows) → WalksTo v rows rows
WalksTo-start v rows ascending = record { ascending = ascending; found = refl; rest = refl }

pub WalksTo-less : {R : Type 0} {v : Vid} {rows now : List (Vid × R)} (w : Vid) (r : R) (left : List (Vid × R)) → WalksTo v rows now → now ≡ (w, r) ∷ left → id_cmp w v ≡ Less → WalksTo v rows left
WalksTo-less {v = v} w r left walks first less =
    let apart = ap is_eq (id_cmp-total.antisymm v w ∙ ap ordering_reverse less) in
    record {
      ascending = sorted_tail id_cmp w (keys_of left) (rw first at walks.ascending);
      found = rw (first, apart) at walks.found;
      rest = rw (first, less) at walks.rest;
    }

pub WalksTo-equal : {R : Type 0} {v : Vid} {rows now : List (Vid × R)} (w : Vid) (r : R) (left : List (Vid × R)) → WalksTo v rows now → now ≡ (w, r) ∷ left → id_cmp w v ≡ Equal → (Some r ≡ row_at v rows) × (now ≡ rows_not_below v rows)
WalksTo-equal {v = v} w r left walks first tied =
    let same = ap is_eq (tied_back id_cmp-total w v tied) in
    (rw (first, same) at walks.found, first ∙ (rw (first, tied) at walks.rest))

pub WalksTo-greater : {R : Type 0} {v : Vid} {rows now : List (Vid × R)} (w : Vid) (r : R) (left : List (Vid × R)) → WalksTo v rows now → now ≡ (w, r) ∷ left → id_cmp w v ≡ Greater → (None ≡ row_at v rows) × (now ≡ rows_not_below v rows)
WalksTo-greater {v = v} w r left walks first greater =
    let less = id_cmp-total.antisymm v w ∙ ap ordering_reverse greater in
    let none = lookup-none (is_same_id v) ((w, r) ∷ left) (none_below_head id_cmp-total v (w, r) left (rw first at walks.ascending) less) in
    (sym none ∙ (rw first at walks.found), first ∙ (rw (first, greater) at walks.rest))

pub WalksTo-end : {R : Type 0} {v : Vid} {rows now : List (Vid × R)} → WalksTo v rows now → now ≡ [] → (None ≡ row_at v rows) × (now ≡ rows_not_below v rows)
WalksTo-end walks none = (rw none at walks.found, none ∙ (rw none at walks.rest))

-- ---- which rows are kept

-- rows picked by a test of what stands beside them
pub picked-beside : {R S : Type 0} (test : Vid × R × Option S → Bool) (xs : List (Vid × R)) (ys : List (Vid × S))
    → picked xs (map test (left_join xs ys)) ≡ filter (λ x. test (x.0, x.1, row_at x.0 ys)) xs
picked-beside test [] ys = refl
picked-beside test (x ∷ xs) ys = by (test (x.0, x.1, row_at x.0 ys)) (picked-beside test xs ys)
  where
    by : (b : Bool) → picked xs (map test (left_join xs ys)) ≡ filter (λ x. test (x.0, x.1, row_at x.0 ys)) xs
        → picked (x ∷ xs) (b ∷ map test (left_join xs ys)) ≡ cond b (x ∷ filter (λ x. test (x.0, x.1, row_at x.0 ys)) xs) (filter (λ x. test (x.0, x.1, row_at x.0 ys)) xs)
    by true more = ap (λ rows. x ∷ rows) more
    by false more = more

-- the rows that have one beside them are those of the inner join
pub picked-partners : {R S : Type 0} (xs : List (Vid × R)) (ys : List (Vid × S)) → keys_of (picked xs (map has_partner (left_join xs ys))) ≡ ids_of_join (inner_join xs ys)
picked-partners [] ys = refl
picked-partners {S = S} (x ∷ xs) ys = by (row_at x.0 ys) (picked-partners xs ys)
  where
    by : (other : Option S) → keys_of (picked xs (map has_partner (left_join xs ys))) ≡ ids_of_join (inner_join xs ys)
        → keys_of (picked (x ∷ xs) (map has_partner ((x.0, x.1, other) ∷ left_join xs ys))) ≡ ids_of_join (filter_map with_partner ((x.0, x.1, other) ∷ left_join xs ys))
    by None more = more
    by (Some s) more = ap (λ ids. x.0 ∷ ids) more

-- what holds of each item holds of one that is found in the list
pub All-at : {A : Type 0} (P : A → Type 0) (xs front : List A) (x : A) (rest : List A) → All P xs → xs ≡ front ++ x ∷ rest → P x
All-at P xs front x rest all split =
    let whole = rw split at all in
    subst P (get_or-append_seam front x rest x) (whole (length front) x (rw length-append (omega arith)))
