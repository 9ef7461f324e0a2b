-- Rows that were loaded fit their columns, and are not too many.
use Rattle.std.proofs.Common.{◌≡◌, ◌+◌, ◌≤◌, ◌∙◌, ℕ, ℤ, Bool, true, false, cond, [], ◌∷◌, List, map, length, Option, None, Some, Result, Ok, Err, refl, sym, ap, subst, arith}
use Rattle.std.specs.Prelude.{All, ◌&&◌, int_lt, nat_lt, option_map, ok_or, ◌==◌, pos}
use Rattle.std.specs.Str.{is_utf8}
use Rattle.std.proofs.lemmas.Bool.Decides.{nat_tests}
use Rattle.std.proofs.lemmas.List.Elements.{All-cons, All-nil}
use Rattle.gx_rows.specs.Bounds.{IsBoundedRow, IsBoundedValue, MOST_LIST_ENTRIES, MOST_TEXT_BYTES}
use Rattle.gx_rows.specs.Columns.{Column}
use Rattle.gx_rows.specs.Kinds.{kind_of}
use Rattle.gx_rows.specs.Results.{◌>>=◌, try_cons}
use Rattle.gx_rows.specs.declared.value.Value.{Value}
use Rattle.gx_rows.specs.declared.value.Value.TheVariants as value
use Rattle.gx_rows.specs.declared.value.ValueKind.{ValueKind}
use Rattle.gx_rows.specs.declared.value.ValueKind.TheVariants as kind
use Rattle.gx_load.specs.Ascending.{ascending}
use Rattle.gx_load.specs.Cells.{bool_of, int_of, is_blank, words_of}
use Rattle.gx_load.specs.CellValues.{cell_value, ids_of_cell, list_of_numbers, numbers_in, text_of_cell}
use Rattle.gx_load.specs.EdgeLists.{edge_at, edge_between, edge_row, ends_in, is_line_space}
use Rattle.gx_load.specs.Fitting.{FitsColumns}
use Rattle.gx_load.specs.Loading.{LoadedRow, MOST_ROWS, cell_result, cell_at, cells_of, key_at, row_of, rows_from, value_at, values_from}
use Rattle.gx_load.specs.declared.load_stop.CellKind.{CellKind}
use Rattle.gx_load.specs.declared.load_stop.CellKind.TheVariants as cell_kind
use Rattle.gx_load.specs.declared.load_stop.LoadStop.{LoadStop}
use Rattle.gx_load.specs.declared.load_stop.LoadStop.TheVariants as load_stop
use Rattle.gx_load.specs.declared.load_stop.RowStop.TheVariants as row_stop
use Rattle.gx_load.proofs.AscendingLemmas.{length-ascending}

-- ---- steps that did not stop

then_ok : {A B E : Type 0} (step : Result A E) (next : A → Result B E) (y : B)
    → (step >>= next) ≡ Ok y → (x : A) × (step ≡ Ok x) × (next x ≡ Ok y)
then_ok (Ok x) next y e = (x, refl, e)
then_ok (Err s) next y e = cc e

same_ok : {A E : Type 0} (x y : A) → ◌≡◌ {A = Result A E} (Ok x) (Ok y) → x ≡ y
same_ok x y e = cc e

cons_ok : {A E : Type 0} (step : Result A E) (rest : Result (List A) E) (ys : List A)
    → try_cons step rest ≡ Ok ys → (x : A) × (xs : List A) × (step ≡ Ok x) × (rest ≡ Ok xs) × (ys ≡ x ∷ xs)
cons_ok (Ok x) (Ok xs) ys e = (x, xs, refl, refl, cc e)
cons_ok (Ok x) (Err s) ys e = cc e
cons_ok (Err s) rest ys e = cc e

-- ---- values

-- the value has this kind and is within its bounds
abbrev Fits : ValueKind → Value → Type 0
Fits kind v = (kind_of v ≡ kind) × IsBoundedValue v

int_fits : (o : Option ℤ) (v : Value) → ok_or (option_map value.Int o) cell_kind.NotInt ≡ Ok v → Fits kind.Int v
int_fits None v e = cc e
int_fits (Some n) v e = let same : value.Int n ≡ v = cc in subst (Fits kind.Int) same (refl, tt)

bool_fits : (o : Option Bool) (v : Value) → ok_or (option_map value.Bool o) cell_kind.NotBool ≡ Ok v → Fits kind.Bool v
bool_fits None v e = cc e
bool_fits (Some b) v e = let same : value.Bool b ≡ v = cc in subst (Fits kind.Bool) same (refl, tt)

text_is_short : (cell bytes : List ℕ) → text_of_cell cell ≡ Ok bytes → length bytes ≤ MOST_TEXT_BYTES
unfolding text_of_cell
text_is_short cell bytes e = go (is_utf8 cell) (nat_lt MOST_TEXT_BYTES (length cell)) refl e
  where
    go : (utf8 long : Bool) → nat_lt MOST_TEXT_BYTES (length cell) ≡ long
        → cond utf8 (cond long (Err cell_kind.TextTooLong) (Ok cell)) (Err cell_kind.NotText) ≡ Ok bytes → length bytes ≤ MOST_TEXT_BYTES
    go true true long e = cc e
    go true false short e = let same : cell ≡ bytes = cc in subst (λ (b : List ℕ). length b ≤ MOST_TEXT_BYTES) same (grind (arith, nat_tests))
    go false long is e = cc e

list_is_short : (numbers ids : List ℤ) → list_of_numbers numbers ≡ Ok ids → length ids ≤ MOST_LIST_ENTRIES
list_is_short numbers ids e = go (nat_lt MOST_LIST_ENTRIES (length numbers)) refl e
  where
    go : (long : Bool) → nat_lt MOST_LIST_ENTRIES (length numbers) ≡ long
        → cond long (Err cell_kind.ListTooLong) (Ok (ascending numbers)) ≡ Ok ids → length ids ≤ MOST_LIST_ENTRIES
    go true long e = cc e
    go false short e =
        let same : ascending numbers ≡ ids = cc in
        let few : length numbers ≤ MOST_LIST_ENTRIES = grind (arith, nat_tests) in
        subst (λ (l : List ℤ). length l ≤ MOST_LIST_ENTRIES) same (rw (length-ascending numbers) few)

cell_fits : (kind : ValueKind) (cell : List ℕ) (v : Value) → cell_value kind cell ≡ Ok v → Fits kind v
unfolding ids_of_cell
cell_fits kind.Int cell v e = int_fits (int_of cell) v e
cell_fits kind.Bool cell v e = bool_fits (bool_of cell) v e
cell_fits kind.Text cell v e =
    let read = then_ok (text_of_cell cell) (λ bytes. Ok (value.Text bytes)) v e in
    let same : value.Text read.0 ≡ v = cc (read.2) in
    subst (Fits kind.Text) same (refl, text_is_short cell read.0 read.1)
cell_fits kind.Ids cell v e = ids v e
  where
    ids : (v : Value) → (ids_of_cell cell >>= λ l. Ok (value.Ids l)) ≡ Ok v → Fits kind.Ids v
    ids v e =
        let read = then_ok (ids_of_cell cell) (λ l. Ok (value.Ids l)) v e in
        let numbers = then_ok (numbers_in (words_of is_blank cell)) list_of_numbers read.0 read.1 in
        let same : value.Ids read.0 ≡ v = cc (read.2) in
        subst (Fits kind.Ids) same (refl, list_is_short numbers.0 read.0 numbers.2)

value_fits : (row column : ℕ) (kind : ValueKind) (cell : List ℕ) (v : Value) → value_at row column kind cell ≡ Ok v → Fits kind v
value_fits row column kind cell v e = go (cell_value kind cell) (cell_fits kind cell v) e
  where
    go : (r : Result Value CellKind) → (r ≡ Ok v → Fits kind v) → cell_result row column r ≡ Ok v → Fits kind v
    go (Ok x) fits e = let same : x ≡ v = cc in fits (ap Ok same)
    go (Err s) fits e = cc e

-- ---- rows

values_fit : (row column : ℕ) (kinds : List ValueKind) (positions : List ℕ) (fields : List (List ℕ)) (values : List Value)
    → values_from row column kinds positions fields ≡ Ok values → (map kind_of values ≡ kinds) × IsBoundedRow values
unfolding values_from
values_fit row column [] positions fields values e = let none : values ≡ [] = cc in rw none (refl, All-nil IsBoundedValue)
values_fit row column (kind ∷ kinds) positions fields values e =
    let read = cons_ok (value_at row column kind (cell_at column positions fields)) (values_from row (column + 1) kinds positions fields) values e in
    let first = value_fits row column kind (cell_at column positions fields) read.0 read.2 in
    let rest = values_fit row (column + 1) kinds positions fields read.1 read.3 in
    rw read.4 (λ i. first.0 i ∷ rest.0 i, All-cons IsBoundedValue read.0 read.1 first.1 rest.1)

row_fits : (keys : ℕ) (kinds : List ValueKind) (width : ℕ) (positions : List ℕ) (row : ℕ) (fields : List (List ℕ)) (loaded : LoadedRow)
    → row_of keys kinds width positions row fields ≡ Ok loaded → (map kind_of loaded.2 ≡ kinds) × IsBoundedRow loaded.2
row_fits keys kinds width positions row fields loaded e = go (length fields == width) e
  where
    cells : cells_of keys kinds positions row fields ≡ Ok loaded → (map kind_of loaded.2 ≡ kinds) × IsBoundedRow loaded.2
    cells e =
        let first = then_ok (key_at row 0 (cell_at 0 positions fields)) _ loaded e in
        let second = then_ok (cond (keys == 1) (Ok (pos 0)) (key_at row 1 (cell_at 1 positions fields))) _ loaded first.2 in
        let values = then_ok (values_from row keys kinds positions fields) _ loaded second.2 in
        let same : values.0 ≡ loaded.2 = ap (λ (r : LoadedRow). r.2) (same_ok {E = LoadStop} _ loaded values.2) in
        subst (λ (vs : List Value). (map kind_of vs ≡ kinds) × IsBoundedRow vs) same (values_fit row keys kinds positions fields values.0 values.1)

    go : (b : Bool) → cond b (cells_of keys kinds positions row fields) (Err (load_stop.Data (row_stop.Shape row))) ≡ Ok loaded
        → (map kind_of loaded.2 ≡ kinds) × IsBoundedRow loaded.2
    go true e = cells e
    go false e = cc e

-- ---- files

module _ {A : Type 0} (row_of_item : ℕ → A → Result LoadedRow LoadStop) where
  -- what holds of each row that is read holds of the rows of the file
  rows_from-all : (P : LoadedRow → Type 0) → ((row : ℕ) (item : A) (loaded : LoadedRow) → row_of_item row item ≡ Ok loaded → P loaded)
      → (row : ℕ) (items : List A) (rows : List LoadedRow) → rows_from row_of_item row items ≡ Ok rows → All P rows
  unfolding rows_from
  rows_from-all P each row [] rows e = let none : rows ≡ [] = cc in rw none (All-nil P)
  rows_from-all P each row (item ∷ items) rows e = go (nat_lt MOST_ROWS row) e (rows_from-all P each (row + 1) items)
    where
      go : (b : Bool) → cond b (Err load_stop.TooManyRows) (try_cons (row_of_item row item) (rows_from row_of_item (row + 1) items)) ≡ Ok rows
          → ((rest : List LoadedRow) → rows_from row_of_item (row + 1) items ≡ Ok rest → All P rest) → All P rows
      go true e later = cc e
      go false e later =
          let read = cons_ok (row_of_item row item) (rows_from row_of_item (row + 1) items) rows e in
          rw read.4 (All-cons P read.0 read.1 (each row item read.0 read.2) (later read.1 read.3))

  -- the rows from this one on are not more than a file may have
  rows_from-few : (row : ℕ) (items : List A) (rows : List LoadedRow) → row ≤ 500001
      → rows_from row_of_item row items ≡ Ok rows → length rows + row ≤ 500001
  unfolding rows_from
  rows_from-few row [] rows few e = let none : rows ≡ [] = cc in rw none (omega arith)
  rows_from-few row (item ∷ items) rows few e = go (nat_lt MOST_ROWS row) refl e (rows_from-few (row + 1) items)
    where
      go : (b : Bool) → nat_lt MOST_ROWS row ≡ b → cond b (Err load_stop.TooManyRows) (try_cons (row_of_item row item) (rows_from row_of_item (row + 1) items)) ≡ Ok rows
          → ((rest : List LoadedRow) → row + 1 ≤ 500001 → rows_from row_of_item (row + 1) items ≡ Ok rest → length rest + (row + 1) ≤ 500001)
          → length rows + row ≤ 500001
      go true past e later = cc e
      go false within e later =
          let read = cons_ok (row_of_item row item) (rows_from row_of_item (row + 1) items) rows e in
          let most : row ≤ 500000 = grind (arith, nat_tests) in
          let rest = later read.1 (omega arith) read.3 in
          rw read.4 (omega arith)

  pub rows_are_few : (items : List A) (rows : List LoadedRow) → rows_from row_of_item 1 items ≡ Ok rows → length rows ≤ MOST_ROWS
  rows_are_few items rows e = let few = rows_from-few 1 items rows (omega arith) e in omega arith

pub rows_fit : (keys : ℕ) (columns : List Column) (kinds : List ValueKind) (width : ℕ) (positions : List ℕ) (records : List (List (List ℕ))) (rows : List LoadedRow)
    → kinds ≡ map (λ c. c.1) columns → rows_from (row_of keys kinds width positions) 1 records ≡ Ok rows → All (λ r. FitsColumns columns r.2) rows
rows_fit keys columns kinds width positions records rows same e =
    rows_from-all (row_of keys kinds width positions) (λ r. FitsColumns columns r.2)
    (λ row item loaded read. let fits = row_fits keys kinds width positions row item loaded read in record { kinds = fits.0 ∙ same; bounded = fits.1 })
    1 records rows e

-- each edge of an edge list has the row of the one value 1
edge_has_one : (oriented : Bool) (line : ℕ × List ℕ) (loaded : LoadedRow) → edge_at oriented line ≡ Ok loaded → loaded.2 ≡ edge_row
edge_has_one oriented line loaded e = go (ends_in (words_of is_line_space line.1)) e
  where
    between : (ends : ℤ × ℤ) → (edge_between oriented ends).2 ≡ edge_row
    between ends = elim (oriented && int_lt ends.1 ends.0) as (λ b. (cond {A = LoadedRow} b (record { 0 = ends.1 }, record { 0 = ends.0 }, edge_row) (record { 0 = ends.0 }, record { 0 = ends.1 }, edge_row)).2 ≡ edge_row) [ true ↦ refl | false ↦ refl ]

    go : (o : Option (ℤ × ℤ)) → ok_or (option_map (edge_between oriented) o) (load_stop.Data (row_stop.Line line.0)) ≡ Ok loaded → loaded.2 ≡ edge_row
    go None e = cc e
    go (Some ends) e = let same : edge_between oriented ends ≡ loaded = cc in ap (λ (r : LoadedRow). r.2) (sym same) ∙ between ends

pub edges_have_one : (oriented : Bool) (lines : List (ℕ × List ℕ)) (rows : List LoadedRow)
    → rows_from (λ row line. edge_at oriented line) 1 lines ≡ Ok rows → All (λ r. r.2 ≡ edge_row) rows
edges_have_one oriented lines rows e =
    rows_from-all (λ row line. edge_at oriented line) (λ r. r.2 ≡ edge_row) (λ row line loaded read. edge_has_one oriented line loaded read) 1 lines rows e
