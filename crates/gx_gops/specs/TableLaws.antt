-- A table is known by its order and by what a look-up finds.
use Rattle.std.specs.Prelude.{◌≡◌, Bool, true, false, ◌&&◌, T, List, [], ◌∷◌, Some}
use Rattle.std.proofs.Common.{cond, refl, sym, ap, ◌∙◌, subst}
use Rattle.std.specs.FinMap.Entries.{below_all, find, find-put, is_sorted, is_sorted-put, same_entries}
use Rattle.std.specs.List.{AllByRecursion}
use Rattle.std.specs.List.Sorted.{IsStrictlySortedBy}
use Rattle.std.specs.Map.{keys_of}
use Rattle.std.specs.Ordering.{is_lt}
use Rattle.std.specs.declared.cmp.Ordering.{Ordering}
use Rattle.std.specs.declared.cmp.Ordering.TheVariants.{Less, Equal, Greater}
use Rattle.gx_rows.specs.declared.vid.Vid.{Vid}
use Rattle.gx_index.specs.Ids.{IsAscending, id_cmp, id_cmp-exact, id_cmp-total, is_same_id}
use Rattle.gx_vpart.specs.Operators.{VertexRow, row_at}
use Rattle.gx_gops.specs.Tables.{IsTableOf, table_of}

-- ---- the order of entries, as a test and as a fact

both_hold : (a b : Bool) → T a → T b → T (a && b)
both_hold true b first second = second
both_hold false b first second = first

first_holds : (a b : Bool) → T (a && b) → T a
first_holds true b both = tt
first_holds false b both = both

second_holds : (a b : Bool) → T (a && b) → T b
second_holds true b both = both
second_holds false b both = absurd both

is_less : (r : Ordering) → T (is_lt r) → r ≡ Less
is_less Less less = refl
is_less Equal less = absurd less
is_less Greater less = absurd less

below_from_all : (v : Vid) (rows : List VertexRow) → AllByRecursion (λ w. id_cmp v w ≡ Less) (keys_of rows) → T (below_all id_cmp v rows)
below_from_all v [] above = tt
below_from_all v (r ∷ rows) above =
    both_hold (is_lt (id_cmp v r.0)) (below_all id_cmp v rows) (subst (λ o. T (is_lt o)) (sym above.0) tt) (below_from_all v rows above.1)

all_from_below : (v : Vid) (rows : List VertexRow) → T (below_all id_cmp v rows) → AllByRecursion (λ w. id_cmp v w ≡ Less) (keys_of rows)
all_from_below v [] below = tt
all_from_below v (r ∷ rows) below = (
  is_less (id_cmp v r.0) (first_holds (is_lt (id_cmp v r.0)) (below_all id_cmp v rows) below),
  all_from_below v rows (second_holds (is_lt (id_cmp v r.0)) (below_all id_cmp v rows) below),
)

is_sorted-from_ascending : (rows : List VertexRow) → IsAscending (keys_of rows) → T (is_sorted id_cmp rows)
unfolding IsStrictlySortedBy
is_sorted-from_ascending [] ascending = tt
is_sorted-from_ascending (r ∷ rows) ascending =
    both_hold (below_all id_cmp r.0 rows) (is_sorted id_cmp rows) (below_from_all r.0 rows ascending.0) (is_sorted-from_ascending rows ascending.1)

IsAscending-from_is_sorted : (rows : List VertexRow) → T (is_sorted id_cmp rows) → IsAscending (keys_of rows)
unfolding IsStrictlySortedBy
IsAscending-from_is_sorted [] sorted = tt
IsAscending-from_is_sorted (r ∷ rows) sorted = (
  all_from_below r.0 rows (first_holds (below_all id_cmp r.0 rows) (is_sorted id_cmp rows) sorted),
  IsAscending-from_is_sorted rows (second_holds (below_all id_cmp r.0 rows) (is_sorted id_cmp rows) sorted),
)

find_row : (id : Vid) (rows : List VertexRow) → find id_cmp id rows ≡ row_at id rows
find_row id [] = refl
find_row id (r ∷ rows) = ap (λ found. cond (is_same_id id r.0) (Some r.1) found) (find_row id rows)

-- ---- tables

is_sorted-table_of : (rows : List VertexRow) → T (is_sorted id_cmp (table_of rows))
is_sorted-table_of [] = tt
is_sorted-table_of (r ∷ rows) = is_sorted-put id_cmp id_cmp-total r.0 r.1 (table_of rows) (is_sorted-table_of rows)

find-table_of : (id : Vid) (rows : List VertexRow) → find id_cmp id (table_of rows) ≡ row_at id rows
find-table_of id [] = refl
find-table_of id (r ∷ rows) =
    find-put id_cmp id_cmp-total id r.0 r.1 (table_of rows) ∙ ap (λ found. cond (is_same_id id r.0) (Some r.1) found) (find-table_of id rows)

-- the table of rows ascends, and a look-up in it finds their first row
pub IsTableOf-table_of : (rows : List VertexRow) → IsTableOf rows (table_of rows)
IsTableOf-table_of rows = record {
  ascending = IsAscending-from_is_sorted (table_of rows) (is_sorted-table_of rows);
  first_rows = λ id. sym (find_row id (table_of rows)) ∙ find-table_of id rows;
}

-- no other list does
pub table_of-unique : (rows table : List VertexRow) → IsTableOf rows table → table ≡ table_of rows
table_of-unique rows table is =
    same_entries id_cmp id_cmp-total id_cmp-exact table (table_of rows) (is_sorted-from_ascending table is.ascending) (is_sorted-table_of rows)
    (λ id. find_row id table ∙ is.first_rows id ∙ sym (find-table_of id rows))
