-- Rows by identifier: in another order, after other rows, and with one row for several identifiers.
use Rattle.std.proofs.Common.{
  ◌≡◌,
  ℕ,
  length,
  ◌==◌,
  Bool,
  true,
  false,
  cond,
  ◌&&◌,
  ◌||◌,
  List,
  [],
  ◌∷◌,
  ◌++◌,
  Option,
  None,
  Some,
  is_none,
  Result,
  Ok,
  Err,
  IfOk,
  arith,
  refl,
  sym,
  ap,
  ◌∙◌,
  subst,
}
use Rattle.std.specs.Cmp.{Equal-is}
use Rattle.std.specs.List.{AllByRecursion, IsDistinct, filter}
use Rattle.std.specs.List.Sorted.{IsPermutation}
use Rattle.std.specs.Map.{keys_of}
use Rattle.std.proofs.lemmas.Bool.{eqb-true}
use Rattle.std.proofs.lemmas.Cmp.{eq_by_cmp_equiv}
use Rattle.std.proofs.lemmas.List.Elements.{All-from_recursion, recursion_from_All}
use Rattle.std.proofs.lemmas.List.Sorted.{
  All-permutation,
  Contains-permutation,
  IsPermutation-refl,
  length_permutation,
}
use Rattle.std.proofs.lemmas.List.{append-nil}
use Rattle.std.proofs.lemmas.Map.{lookup-none, none_passes_from_lookup}
use Rattle.std.proofs.lemmas.Map.Views.{Contains-from_lookup, lookup-from_Contains}
use Rattle.gx_rows.specs.Order.{Edge}
use Rattle.gx_rows.specs.declared.value.Value.{Value}
use Rattle.gx_rows.specs.declared.vid.Vid.{Vid}
use Rattle.gx_index.specs.Ends.{IsSetOf}
use Rattle.gx_index.specs.Ids.{
  HasDistinctIds,
  HasDistinctIds-from_ascending,
  IsAscending,
  has_id,
  id_cmp,
  id_cmp-exact,
  id_cmp-total,
  is_same_id,
}
use Rattle.gx_vpart.specs.Operators.{VertexRow, minus, row_at}
use Rattle.gx_gops.specs.TableLaws.{table_of-unique}
use Rattle.gx_gops.specs.Tables.{
  both_ends,
  default_rows,
  ends_in_part,
  is_in_part,
  is_missing,
  table_of,
}

same_is_equal : (v w : Vid) → is_same_id v w ≡ true → v ≡ w
same_is_equal v w same = id_cmp-exact v w ((Equal-is (id_cmp v w)).0 same)

-- rows of distinct identifiers are found alike in another order
pub row_at-IsPermutation : (q : Vid) (xs ys : List VertexRow) → IsPermutation xs ys
    → HasDistinctIds (keys_of ys) → row_at q ys ≡ row_at q xs
row_at-IsPermutation q xs ys same distinct = by (row_at q xs) refl
  where
    by : (r : Option (List Value)) → row_at q xs ≡ r → row_at q ys ≡ r
    by None e =
        let none = All-from_recursion (λ (p : VertexRow). is_same_id q p.0 ≡ false) xs
        (none_passes_from_lookup (is_same_id q) xs e) in
        lookup-none (is_same_id q) ys
        (recursion_from_All (λ (p : VertexRow). is_same_id q p.0 ≡ false) ys
        (All-permutation (λ (p : VertexRow). is_same_id q p.0 ≡ false) xs ys same none))
    by (Some row) e =
        lookup-from_Contains (eq_by_cmp_equiv id_cmp-total) q row ys distinct
        (Contains-permutation xs ys (q, row) same
        (Contains-from_lookup same_is_equal q row xs e))

-- ---- rows after others

-- the first of two rows, if there is one
abbrev pub first_or : Option (List Value) → Option (List Value) → Option (List Value)
first_or (Some row) other = Some row
first_or None other = other

first_or-cond : (t : Bool) (row : List Value) (u v : Option (List Value))
    → cond t (Some row) (first_or u v) ≡ first_or (cond t (Some row) u) v
first_or-cond true row u v = refl
first_or-cond false row u v = refl

row_at-append : (rows more : List VertexRow) (q : Vid)
    → row_at q (rows ++ more) ≡ first_or (row_at q rows) (row_at q more)
row_at-append [] more q = refl
row_at-append (r ∷ rows) more q =
    ap (λ u. cond (is_same_id q r.0) (Some r.1) u) (row_at-append rows more q)
    ∙ first_or-cond (is_same_id q r.0) r.1 (row_at q rows) (row_at q more)

row_if : (t u : Bool) (row : List Value)
    → cond t (Some row) (cond u (Some row) None) ≡ cond (t || u) (Some row) None
row_if true u row = refl
row_if false u row = refl

row_at-default_rows : (row : List Value) (ids : List Vid) (q : Vid)
    → row_at q (default_rows row ids) ≡ cond (has_id q ids) (Some row) None
row_at-default_rows row [] q = refl
row_at-default_rows row (id ∷ ids) q =
    ap (λ u. cond (is_same_id q id) (Some row) u) (row_at-default_rows row ids q)
    ∙ row_if (is_same_id q id) (has_id q ids) row

first_or-same : (u v w : Option (List Value)) → (is_none u ≡ true → v ≡ w)
    → first_or u v ≡ first_or u w
first_or-same (Some row) v w same = refl
first_or-same None v w same = same refl

-- of the identifiers that get one row, only those count that have no row of their own
pub row_at-added : (rows : List VertexRow) (row : List Value) (some all : List Vid) (q : Vid)
    → (is_none (row_at q rows) ≡ true → has_id q some ≡ has_id q all)
    → row_at q (rows ++ default_rows row some) ≡ row_at q (rows ++ default_rows row all)
row_at-added rows row some all q same =
    row_at-append rows (default_rows row some) q
    ∙ first_or-same (row_at q rows) (row_at q (default_rows row some))
    (row_at q (default_rows row all))
    (λ none. row_at-default_rows row some q ∙ ap (λ b. cond b (Some row) None) (same none)
    ∙ sym (row_at-default_rows row all q))
    ∙ sym (row_at-append rows (default_rows row all) q)

-- ---- filtered identifiers

-- an identifier is in a filtered list if it is in the list and passes
pub has_id-filter : (test : Vid → Bool) (q : Vid) (ids : List Vid)
    → has_id q (filter test ids) ≡ test q && has_id q ids
has_id-filter test q [] = by (test q)
  where
    by : (b : Bool) → false ≡ b && false
    by true = refl
    by false = refl
has_id-filter test q (id ∷ ids) =
    by (is_same_id q id) refl (test id) refl (has_id-filter test q ids)
  where
    or_and : (t u : Bool) → t ≡ true → true || u ≡ t && true
    or_and true u e = refl
    or_and false u e = cc

    gone : (t h : Bool) → t ≡ false → t && h ≡ t && true
    gone true h e = cc
    gone false h e = refl

    by : (s : Bool) → is_same_id q id ≡ s → (b : Bool) → test id ≡ b
        → has_id q (filter test ids) ≡ test q && has_id q ids
        → has_id q (cond b (id ∷ filter test ids) (filter test ids)) ≡ test q && (s || has_id q ids)
    by true same true passes rest =
        let key : q ≡ id = same_is_equal q id same in
        ap (λ t. t || has_id q (filter test ids)) same
        ∙ or_and (test q) (has_id q (filter test ids)) (ap test key ∙ passes)
    by true same false fails rest =
        let key : q ≡ id = same_is_equal q id same in
        rest ∙ gone (test q) (has_id q ids) (ap test key ∙ fails)
    by false apart true passes rest = ap (λ t. t || has_id q (filter test ids)) apart ∙ rest
    by false apart false fails rest = rest

-- ---- distinct identifiers

not_among : (v : Vid) (ids : List Vid) → has_id v ids ≡ false
    → AllByRecursion (λ w. is_same_id v w ≡ false) ids
not_among v [] none = tt
not_among v (w ∷ ids) none = by (is_same_id v w) refl (not_among v ids) none
  where
    by : (b : Bool) → is_same_id v w ≡ b
        → (has_id v ids ≡ false → AllByRecursion (λ w. is_same_id v w ≡ false) ids)
        → b || has_id v ids ≡ false → AllByRecursion (λ w. is_same_id v w ≡ false) (w ∷ ids)
    by true same rest e = cc
    by false apart rest e = (apart, rest e)

both_not_among : (v : Vid) (xs ys : List Vid) → AllByRecursion (λ w. is_same_id v w ≡ false) xs
    → AllByRecursion (λ w. is_same_id v w ≡ false) ys
    → AllByRecursion (λ w. is_same_id v w ≡ false) (xs ++ ys)
both_not_among v [] ys none more = more
both_not_among v (x ∷ xs) ys none more = (none.0, both_not_among v xs ys none.1 more)

or-true : (b : Bool) → b || true ≡ true
or-true true = refl
or-true false = refl

-- distinct identifiers and others that are distinct, of which none is among the first
HasDistinctIds-append : (xs ys : List Vid) → HasDistinctIds xs → HasDistinctIds ys
    → ((q : Vid) → has_id q xs ≡ true → has_id q ys ≡ false) → HasDistinctIds (xs ++ ys)
unfolding IsDistinct
HasDistinctIds-append [] ys first second apart = second
HasDistinctIds-append (x ∷ xs) ys first second apart =
    let itself : has_id x (x ∷ xs) ≡ true =
    ap (λ b. b || has_id x xs) ((eq_by_cmp_equiv id_cmp-total).refl x) in (
      both_not_among x xs ys first.0 (not_among x ys (apart x itself)),
      HasDistinctIds-append xs ys first.1 second
          (λ q there. apart q (ap (λ b. is_same_id q x || b) there ∙ or-true (is_same_id q x))),
    )

keys-added : (rows : List VertexRow) (row : List Value) (ids : List Vid)
    → keys_of (rows ++ default_rows row ids) ≡ keys_of rows ++ ids
keys-added [] row [] = refl
keys-added [] row (id ∷ ids) = ap (λ xs. id ∷ xs) (keys-added [] row ids)
keys-added (r ∷ rows) row ids = ap (λ xs. r.0 ∷ xs) (keys-added rows row ids)

has_row : (q : Vid) (rows : List VertexRow) → has_id q (keys_of rows) ≡ true
    → is_none (row_at q rows) ≡ false
has_row q [] there = cc
has_row q (r ∷ rows) there = by (is_same_id q r.0) (has_row q rows) there
  where
    by : (b : Bool) → (has_id q (keys_of rows) ≡ true → is_none (row_at q rows) ≡ false)
        → b || has_id q (keys_of rows) ≡ true → is_none (cond b (Some r.1) (row_at q rows)) ≡ false
    by true rest e = refl
    by false rest e = rest e

-- distinct identifiers stay distinct with others that have no row
HasDistinctIds-added : (rows : List VertexRow) (row : List Value) (ids : List Vid)
    → HasDistinctIds (keys_of rows) → HasDistinctIds ids
    → ((q : Vid) → is_none (row_at q rows) ≡ false → has_id q ids ≡ false)
    → HasDistinctIds (keys_of (rows ++ default_rows row ids))
HasDistinctIds-added rows row ids rows_distinct ids_distinct apart =
    subst HasDistinctIds (sym (keys-added rows row ids))
    (HasDistinctIds-append (keys_of rows) ids rows_distinct ids_distinct
    (λ q there. apart q (has_row q rows there)))

-- ---- the missing ends

module _ (rows : List VertexRow) (part parts : ℕ) (edges : List Edge) (missing : List Vid)
    (are : IsSetOf (filter (is_missing rows part parts) (both_ends edges)) missing) where
  missing_is : (q : Vid)
      → has_id q missing ≡ is_missing rows part parts q && has_id q (both_ends edges)
  missing_is q = are.exact q ∙ has_id-filter (is_missing rows part parts) q (both_ends edges)

  -- no missing end has a row
  apart : (q : Vid) → is_none (row_at q rows) ≡ false → has_id q missing ≡ false
  apart q some = missing_is q
      ∙ by (is_in_part part parts q) (is_none (row_at q rows)) (has_id q (both_ends edges)) some
    where
      by : (b n h : Bool) → n ≡ false → (b && n) && h ≡ false
      by true true h e = cc
      by true false h e = refl
      by false n h e = refl

  -- of those that have none, they are the ends in the partition
  all_missing : (q : Vid) → is_none (row_at q rows) ≡ true
      → has_id q missing ≡ has_id q (ends_in_part part parts edges)
  all_missing q none =
      missing_is q
      ∙ by (is_in_part part parts q) (is_none (row_at q rows)) (has_id q (both_ends edges)) none
      ∙ sym (has_id-filter (is_in_part part parts) q (both_ends edges))
    where
      by : (b n h : Bool) → n ≡ true → (b && n) && h ≡ b && h
      by true true h e = refl
      by true false h e = cc
      by false n h e = refl

  pub HasDistinctIds-with_missing : (row : List Value) → IsAscending (keys_of rows)
      → HasDistinctIds (keys_of (rows ++ default_rows row missing))
  HasDistinctIds-with_missing row ascending =
      HasDistinctIds-added rows row missing (HasDistinctIds-from_ascending (keys_of rows) ascending)
      (HasDistinctIds-from_ascending missing are.ascending) apart

  -- the rows and the missing ends in ascending order are the table of the rows and of all ends
  pub table_of-with_missing : (row : List Value) (table : List VertexRow)
      → IsAscending (keys_of table) → IsPermutation (rows ++ default_rows row missing) table
      → table ≡ table_of (rows ++ default_rows row (ends_in_part part parts edges))
  table_of-with_missing row table ascending same =
      table_of-unique (rows ++ default_rows row (ends_in_part part parts edges)) table
      (record {
        ascending = ascending;
        first_rows = λ q.
            row_at-IsPermutation q (rows ++ default_rows row missing) table same
            (HasDistinctIds-from_ascending (keys_of table) ascending)
            ∙ row_at-added rows row missing (ends_in_part part parts edges) q (all_missing q);
      })

  -- with no missing end, the rows are the table
  pub table_of-complete : (row : List Value) → missing ≡ [] → IsAscending (keys_of rows)
      → rows ≡ table_of (rows ++ default_rows row (ends_in_part part parts edges))
  table_of-complete row none ascending =
      table_of-with_missing row rows ascending
      (subst (λ ids. IsPermutation (rows ++ default_rows row ids) rows) (sym none)
      (subst (λ rs. IsPermutation rs rows) (sym (append-nil rows)) (IsPermutation-refl rows)))

-- ---- no rows

pub none_are_left : {X : Type 0} (xs : List X) → IsPermutation [] xs → xs ≡ []
none_are_left [] same = refl
none_are_left (x ∷ xs) same = let none = length_permutation [] (x ∷ xs) same in
    absurd (omega (arith, none))

-- none of the rows is taken away
pub minus-none : (rows none : List VertexRow) → none ≡ [] → minus rows none ≡ rows
minus-none rows none e = ap (minus rows) e ∙ all rows
  where
    all : (rows : List VertexRow) → minus {R = List Value} {S = List Value} rows [] ≡ rows
    all [] = refl
    all (r ∷ rows) = ap (λ rs. r ∷ rs) (all rows)

pub empty_from_length : {X : Type 0} (xs : List X) → length xs == 0 ≡ true → xs ≡ []
empty_from_length [] e = refl
empty_from_length (x ∷ xs) e = let none : length (x ∷ xs) ≡ 0 = eqb-true (length (x ∷ xs)) 0 e in
    absurd (omega arith)

-- what follows from two facts of a value, follows for that of an `Ok`
pub if_ok_both : {A E : Type 0} (P Q R : A → Type 0) (r : Result A E) → ((a : A) → P a → Q a → R a)
    → IfOk r P → IfOk r Q → IfOk r R
if_ok_both P Q R (Ok a) follows first second = follows a first second
if_ok_both P Q R (Err e) follows first second = tt
