-- The rows of a file, record by record or line by line.
use Rattle.std.proofs.Common.{◌≡◌, ◌+◌, ◌<◌, ◌≤◌, ◌∙◌, [], ◌∷◌, ◌++◌, ℕ, List, Result, Ok, Err, refl, sym, ap}
use Rattle.std.proofs.lemmas.Bool.{le-ltb, lt-ltb}
use Rattle.gx_rows.specs.Results.{try_cons, try_append, try_append-done, try_append-try_cons, try_append-stop}
use Rattle.gx_load.specs.Loading.{LoadedRow, MOST_ROWS, rows_from}
use Rattle.gx_load.specs.declared.load_stop.LoadStop.{LoadStop}
use Rattle.gx_load.specs.declared.load_stop.LoadStop.TheVariants as load_stop

module _ {A : Type 0} (row_of_item : ℕ → A → Result LoadedRow LoadStop) where
  -- the rows from an item on, within the most rows of a file
  rows_from-step : (row : ℕ) (item : A) (rest : List A)
      → row ≤ MOST_ROWS → rows_from row_of_item row (item ∷ rest) ≡ try_cons (row_of_item row item) (rows_from row_of_item (row + 1) rest)
  unfolding rows_from
  rows_from-step row item rest few = rw (le-ltb MOST_ROWS row few) refl

  rows_from-past : (row : ℕ) (item : A) (rest : List A)
      → MOST_ROWS < row → rows_from row_of_item row (item ∷ rest) ≡ Err load_stop.TooManyRows
  unfolding rows_from
  rows_from-past row item rest many = rw (lt-ltb MOST_ROWS row many) refl

  -- the row of an item is appended to the rows so far
  pub rows_from-more : (front : List LoadedRow) (row : ℕ) (item : A) (items rest : List A)
      (defined : Result (List LoadedRow) LoadStop) (loaded_row : LoadedRow)
      → row ≤ MOST_ROWS → items ≡ item ∷ rest → row_of_item row item ≡ Ok loaded_row
      → try_append front (rows_from row_of_item row items) ≡ defined
      → try_append (front ++ loaded_row ∷ []) (rows_from row_of_item (row + 1) rest) ≡ defined
  rows_from-more front row item items rest defined loaded_row few next read so_far =
      sym (try_append-try_cons front loaded_row (row_of_item row item) (rows_from row_of_item (row + 1) rest) read)
      ∙ sym (ap (try_append front) (rows_from-step row item rest few)) ∙ rw next at so_far

  -- an item that is refused stops the file
  pub rows_from-stop : (front : List LoadedRow) (row : ℕ) (item : A) (items rest : List A)
      (defined : Result (List LoadedRow) LoadStop) (stop : LoadStop)
      → row ≤ MOST_ROWS → items ≡ item ∷ rest → row_of_item row item ≡ Err stop
      → try_append front (rows_from row_of_item row items) ≡ defined → defined ≡ Err stop
  rows_from-stop front row item items rest defined stop few next refused so_far =
      sym (rw next at so_far) ∙ ap (try_append front) (rows_from-step row item rest few)
      ∙ try_append-stop front stop (row_of_item row item) (rows_from row_of_item (row + 1) rest) refused

  -- so does an item past the most rows
  pub rows_from-too_many : (front : List LoadedRow) (row : ℕ) (item : A) (items rest : List A)
      (defined : Result (List LoadedRow) LoadStop)
      → MOST_ROWS < row → items ≡ item ∷ rest
      → try_append front (rows_from row_of_item row items) ≡ defined → defined ≡ Err load_stop.TooManyRows
  rows_from-too_many front row item items rest defined many next so_far =
      sym (rw next at so_far) ∙ ap (try_append front) (rows_from-past row item rest many)

  -- no item, no row
  pub rows_from-done : (front : List LoadedRow) (row : ℕ) (items : List A) (defined : Result (List LoadedRow) LoadStop)
      → items ≡ [] → try_append front (rows_from row_of_item row items) ≡ defined → defined ≡ Ok front
  unfolding rows_from
  rows_from-done front row items defined none so_far =
      sym so_far ∙ try_append-done front (rows_from row_of_item row items) (rw none refl)
