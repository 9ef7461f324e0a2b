-- The table of rows: what a look-up finds in it, and what a stable sort and `dedup` leave.
use Rattle.std.proofs.Common.{
  ◌≡◌,
  Bool,
  true,
  false,
  cond,
  not,
  ◌&&◌,
  ◌||◌,
  List,
  [],
  ◌∷◌,
  ◌++◌,
  map,
  Option,
  None,
  Some,
  is_some,
  refl,
  sym,
  ap,
  ◌∙◌,
  subst,
}
use Rattle.std.specs.declared.cmp.Ordering.{Ordering}
use Rattle.std.specs.declared.cmp.Ordering.TheVariants.{Less, Equal, Greater}
use Rattle.std.specs.Cmp.{Equal-is}
use Rattle.std.specs.List.{AllByRecursion, filter, dedup, dedup_from}
use Rattle.std.specs.List.Sorted.{IsStrictlySortedBy, IsSortedByKey, IsStableByKey, ties}
use Rattle.std.specs.Map.{keys_of}
use Rattle.std.specs.Ordering.{is_eq, is_lt, ordering_reverse}
use Rattle.std.proofs.lemmas.Cmp.{on_total}
use Rattle.std.proofs.lemmas.List.Kept.{IsStrictlySortedBy-dedup}
use Rattle.gx_rows.specs.declared.value.Value.{Value}
use Rattle.gx_rows.specs.declared.vid.Vid.{Vid}
use Rattle.gx_index.specs.Ids.{IsAscending, has_id, id_cmp, id_cmp-exact, id_cmp-total, is_same_id}
use Rattle.gx_model.specs.Graphs.{Vertex, first_row_of, ids_in_rows, table_of_rows}
use Rattle.gx_model.specs.KeyLaws.{
  among,
  among-insert_key,
  sorted-insert_key,
  lookup-picked,
  sorted-picked,
}
use Rattle.gx_model.specs.TableOrderLaws.{same_entries}

-- two rows are of one identifier
abbrev pub has_same_id : Vertex → Vertex → Bool
has_same_id r s = is_same_id r.0 s.0

-- ---- the definition: ascending, and a look-up finds the first row

some_if : {X : Type 0} (t : Bool) (x : X) (u : Option X)
    → is_some (cond t (Some x) u) ≡ t || is_some u
some_if true x u = refl
some_if false x u = refl

if_some : {X : Type 0} (u : Option X) → cond (is_some u) u None ≡ u
if_some None = refl
if_some (Some x) = refl

among-ids : (q : Vid) (es : List Vertex)
    → among id_cmp-total id_cmp-exact q (ids_in_rows es) ≡ is_some (first_row_of es q)
among-ids q [] = refl
among-ids q (e ∷ es) =
    among-insert_key id_cmp-total id_cmp-exact q e.0 (ids_in_rows es)
    ∙ ap (λ b. is_same_id q e.0 || b) (among-ids q es)
    ∙ sym (some_if (is_same_id q e.0) e.1 (first_row_of es q))

sorted-ids : (es : List Vertex) → IsStrictlySortedBy id_cmp (ids_in_rows es)
unfolding IsStrictlySortedBy
sorted-ids [] = tt
sorted-ids (e ∷ es) =
    sorted-insert_key id_cmp-total id_cmp-exact e.0 (ids_in_rows es) (sorted-ids es)

pub IsAscending-table : (es : List Vertex) → IsAscending (keys_of (table_of_rows es))
IsAscending-table es =
    sorted-picked id_cmp-total id_cmp-exact (λ v. first_row_of es v) (ids_in_rows es)
    (sorted-ids es)

pub first_row_of-table : (q : Vid) (es : List Vertex)
    → first_row_of (table_of_rows es) q ≡ first_row_of es q
first_row_of-table q es =
    lookup-picked id_cmp-total id_cmp-exact (λ v. first_row_of es v) q (ids_in_rows es)
    ∙ ap (λ b. cond b (first_row_of es q) None) (among-ids q es)
    ∙ if_some (first_row_of es q)

-- ---- a stable sort leaves the first row of each identifier the first

abbrev first_of : List Vertex → Option (List Value)
first_of [] = None
first_of (r ∷ rs) = Some r.1

first_by_filter : (p : Vertex → Bool) (q : Vid) → ((r : Vertex) → p r ≡ is_same_id q r.0)
    → (rs : List Vertex)
    → first_row_of rs q ≡ first_of (filter p rs)
first_by_filter p q h [] = refl
first_by_filter p q h (r ∷ rs) = by (is_same_id q r.0) (h r) (first_by_filter p q h rs)
  where
    by : (b : Bool) → p r ≡ b → first_row_of rs q ≡ first_of (filter p rs)
        → cond b (Some r.1) (first_row_of rs q)
        ≡ first_of (cond (p r) (r ∷ filter p rs) (filter p rs))
    by true e more = rw e refl
    by false e more = rw e more

ties_are_same : (v w : Vid) → not (is_lt (id_cmp v w)) && not (is_lt (id_cmp w v)) ≡ is_same_id v w
ties_are_same v w = ap (λ r. not (is_lt (id_cmp v w)) && not (is_lt r)) (id_cmp-total.antisymm w v)
    ∙ by (id_cmp v w)
  where
    by : (r : Ordering) → not (is_lt r) && not (is_lt (ordering_reverse r)) ≡ is_eq r
    by Less = refl
    by Equal = refl
    by Greater = refl

pub first_row_of-stable : (q : Vid) (rs ss : List Vertex) → IsStableByKey (λ r. r.0) id_cmp rs ss
    → first_row_of ss q ≡ first_row_of rs q
first_row_of-stable q rs ss stable =
    let row : Vertex = (q, []) in
    let tied = ties (λ x y. is_lt (id_cmp x.0 y.0)) row in
    let same = λ (r : Vertex). ties_are_same q r.0 in
    first_by_filter tied q same ss ∙ ap first_of (stable row) ∙ sym (first_by_filter tied q same rs)

-- ---- without the later rows of each identifier

first_counts : {X : Type 0} (t : Bool) (x y : X) (u : Option X)
    → cond t (Some x) (cond t (Some y) u) ≡ cond t (Some x) u
first_counts true x y u = refl
first_counts false x y u = refl

first_row_of-dedup_from : (q : Vid) (k : Vertex) (rs : List Vertex)
    → first_row_of (dedup_from has_same_id k rs) q ≡ first_row_of (k ∷ rs) q
first_row_of-dedup_from q k [] = refl
first_row_of-dedup_from q k (r ∷ rs) =
    by (has_same_id r k) refl (first_row_of-dedup_from q k rs) (first_row_of-dedup_from q r rs)
  where
    by : (b : Bool) → has_same_id r k ≡ b
        → first_row_of (dedup_from has_same_id k rs) q ≡ first_row_of (k ∷ rs) q
        → first_row_of (dedup_from has_same_id r rs) q ≡ first_row_of (r ∷ rs) q
        → first_row_of (cond b (dedup_from has_same_id k rs) (k ∷ dedup_from has_same_id r rs)) q
        ≡ first_row_of (k ∷ r ∷ rs) q
    by true e gone kept =
        let key : r.0 ≡ k.0 = id_cmp-exact r.0 k.0 ((Equal-is (id_cmp r.0 k.0)).0 e) in
        gone ∙ sym (ap (λ v. cond (is_same_id q k.0) (Some k.1)
        (cond (is_same_id q v) (Some r.1) (first_row_of rs q))) key
        ∙ first_counts (is_same_id q k.0) k.1 r.1 (first_row_of rs q))
    by false e gone kept = ap (λ u. cond (is_same_id q k.0) (Some k.1) u) kept

pub first_row_of-dedup : (q : Vid) (rs : List Vertex)
    → first_row_of (dedup has_same_id rs) q ≡ first_row_of rs q
first_row_of-dedup q [] = refl
first_row_of-dedup q (r ∷ rs) = first_row_of-dedup_from q r rs

sorted_keys : (rs : List Vertex) → IsStrictlySortedBy (λ r s. id_cmp r.0 s.0) rs
    → IsStrictlySortedBy id_cmp (keys_of rs)
unfolding IsStrictlySortedBy
sorted_keys [] s = tt
sorted_keys (r ∷ rs) s = (below r rs s.0, sorted_keys rs s.1)
  where
    below : (r : Vertex) (rs : List Vertex) → AllByRecursion (λ y. id_cmp r.0 y.0 ≡ Less) rs
        → AllByRecursion (λ y. id_cmp r.0 y ≡ Less) (keys_of rs)
    below r [] all = tt
    below r (x ∷ xs) all = (all.0, below r xs all.1)

-- sorted by identifier, in a stable way, and without the later rows of each identifier: the table
pub table_is : (rs ss : List Vertex) → IsSortedByKey (λ r. r.0) id_cmp ss
    → IsStableByKey (λ r. r.0) id_cmp rs ss
    → dedup has_same_id ss ≡ table_of_rows rs
table_is rs ss sorted stable =
    same_entries id_cmp-total id_cmp-exact (dedup has_same_id ss) (table_of_rows rs)
    (sorted_keys (dedup has_same_id ss)
    (IsStrictlySortedBy-dedup (on_total (λ r. r.0) id_cmp-total) (λ r s. refl) ss sorted))
    (IsAscending-table rs)
    (λ q. first_row_of-dedup q ss ∙ first_row_of-stable q rs ss stable
    ∙ sym (first_row_of-table q rs))

-- ---- tables of rows with equal look-ups

-- ascending rows are the table of all rows with their look-ups
pub table_from_look_ups : (rs table : List Vertex) → IsAscending (keys_of table)
    → ((q : Vid) → first_row_of table q ≡ first_row_of rs q) → table ≡ table_of_rows rs
table_from_look_ups rs table ascending same =
    same_entries id_cmp-total id_cmp-exact table (table_of_rows rs) ascending (IsAscending-table rs)
    (λ q. same q ∙ sym (first_row_of-table q rs))

pub table_of_rows-same : (rs ss : List Vertex) → ((q : Vid) → first_row_of rs q ≡ first_row_of ss q)
    → table_of_rows rs ≡ table_of_rows ss
table_of_rows-same rs ss same =
    table_from_look_ups ss (table_of_rows rs) (IsAscending-table rs)
    (λ q. first_row_of-table q rs ∙ same q)

pub table_of_rows-ascending : (rs : List Vertex) → IsAscending (keys_of rs) → rs ≡ table_of_rows rs
table_of_rows-ascending rs ascending = table_from_look_ups rs rs ascending (λ q. refl)

-- ---- identifiers that have one row

-- these identifiers, each with one row
abbrev pub with_default : List Value → List Vid → List Vertex
with_default row ids = map (λ id. (id, row)) ids

-- the first of two rows, if there is one
abbrev pub first_or : Option (List Value) → Option (List Value) → Option (List Value)
first_or (Some row) other = Some row
first_or None other = other

first_or-cond : (t : Bool) (row : List Value) (u v : Option (List Value))
    → cond t (Some row) (first_or u v) ≡ first_or (cond t (Some row) u) v
first_or-cond true row u v = refl
first_or-cond false row u v = refl

pub first_row_of-append : (rs ss : List Vertex) (q : Vid)
    → first_row_of (rs ++ ss) q ≡ first_or (first_row_of rs q) (first_row_of ss q)
first_row_of-append [] ss q = refl
first_row_of-append (r ∷ rs) ss q =
    ap (λ u. cond (is_same_id q r.0) (Some r.1) u) (first_row_of-append rs ss q)
    ∙ first_or-cond (is_same_id q r.0) r.1 (first_row_of rs q) (first_row_of ss q)

default_if : (t u : Bool) (row : List Value)
    → cond t (Some row) (cond u (Some row) None) ≡ cond (t || u) (Some row) None
default_if true u row = refl
default_if false u row = refl

pub first_row_of-with_default : (row : List Value) (ids : List Vid) (q : Vid)
    → first_row_of (with_default row ids) q ≡ cond (has_id q ids) (Some row) None
first_row_of-with_default row [] q = refl
first_row_of-with_default row (id ∷ ids) q =
    ap (λ u. cond (is_same_id q id) (Some row) u) (first_row_of-with_default row ids q)
    ∙ default_if (is_same_id q id) (has_id q ids) row

has_id-first_row_of : (rs : List Vertex) (q : Vid)
    → is_some (first_row_of rs q) ≡ has_id q (keys_of rs)
has_id-first_row_of [] q = refl
has_id-first_row_of (r ∷ rs) q =
    some_if (is_same_id q r.0) r.1 (first_row_of rs q)
    ∙ ap (λ b. is_same_id q r.0 || b) (has_id-first_row_of rs q)

first_or-same : (u v w : Option (List Value)) → (is_some u ≡ false → v ≡ w)
    → first_or u v ≡ first_or u w
first_or-same (Some row) v w same = refl
first_or-same None v w same = same refl

-- of the identifiers that get the default row, only those count that have no row of their own
pub table_of_rows-defaults : (rs : List Vertex) (row : List Value) (some all : List Vid)
    → ((q : Vid) → has_id q (keys_of rs) ≡ false → has_id q some ≡ has_id q all)
    → table_of_rows (rs ++ with_default row some) ≡ table_of_rows (rs ++ with_default row all)
table_of_rows-defaults rs row some all same =
    table_of_rows-same (rs ++ with_default row some) (rs ++ with_default row all)
    (λ q. first_row_of-append rs (with_default row some) q
    ∙ first_or-same (first_row_of rs q) (first_row_of (with_default row some) q)
    (first_row_of (with_default row all) q)
    (λ none. first_row_of-with_default row some q
    ∙ ap (λ b. cond b (Some row) None) (same q (sym (has_id-first_row_of rs q) ∙ none))
    ∙ sym (first_row_of-with_default row all q))
    ∙ sym (first_row_of-append rs (with_default row all) q))

keys-with_default : (row : List Value) (ids : List Vid) → keys_of (with_default row ids) ≡ ids
keys-with_default row [] = refl
keys-with_default row (id ∷ ids) = ap (λ xs. id ∷ xs) (keys-with_default row ids)

-- a set of identifiers, each with one row, is the table of all of them with that row
pub table_of_rows-set : (row : List Value) (set ids : List Vid) → IsAscending set
    → ((q : Vid) → has_id q set ≡ has_id q ids)
    → IsAscending (keys_of (with_default row set))
    × (with_default row set ≡ table_of_rows (with_default row ids))
table_of_rows-set row set ids ascending same =
    let keys = subst IsAscending (sym (keys-with_default row set)) ascending in (
      keys,
      table_from_look_ups (with_default row ids) (with_default row set) keys
          (λ q. first_row_of-with_default row set q ∙ ap (λ b. cond b (Some row) None) (same q)
          ∙ sym (first_row_of-with_default row ids q)),
    )
