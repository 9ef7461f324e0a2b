-- The values of a row, cell by cell.
use Rattle.std.proofs.Common.{◌≡◌, ◌+◌, ◌<◌, ◌≤◌, ◌∙◌, [], ◌∷◌, ◌++◌, ℕ, List, Result, Ok, Err, length, get_or, drop, drop-cons, add-one, refl, sym, ap, arith}
use Rattle.std.proofs.lemmas.List.{drop_all}
use Rattle.gx_rows.specs.Results.{try_cons, try_append, try_append-try_cons, try_append-stop}
use Rattle.gx_rows.specs.declared.value.Value.{Value}
use Rattle.gx_rows.specs.declared.value.ValueKind.{ValueKind}
use Rattle.gx_rows.specs.declared.value.ValueKind.TheVariants as kind
use Rattle.gx_load.specs.Loading.{cell_at, value_at, values_from}
use Rattle.gx_load.specs.declared.load_stop.LoadStop.{LoadStop}

module _ (row keys : ℕ) (kinds : List ValueKind) (positions : List ℕ) (fields : List (List ℕ)) where
  -- the value of the declared column at this index
  abbrev pub value_of_column : ℕ → Result Value LoadStop
  value_of_column i = value_at row (keys + i) (get_or kinds i kind.Int) (cell_at (keys + i) positions fields)

  -- the values from the declared column at this index on
  abbrev pub values_after : ℕ → Result (List Value) LoadStop
  values_after i = values_from row (keys + i) (drop i kinds) positions fields

  pub values_after-step : (i : ℕ) → i < length kinds → values_after i ≡ try_cons (value_of_column i) (values_after (i + 1))
  unfolding values_from
  values_after-step i lt =
      let next : keys + i + 1 ≡ keys + (i + 1) = omega arith in
      rw (drop-cons kinds i kind.Int lt, next, add-one i) refl

  -- past the last column no value is left
  pub values_after-done : (i : ℕ) → length kinds ≤ i → values_after i ≡ Ok []
  unfolding values_from
  values_after-done i past = rw (drop_all i kinds past) refl

  -- the value of a cell is appended to the values so far
  pub values_after-more : (front : List Value) (i : ℕ) (defined : Result (List Value) LoadStop) (value : Value)
      → i < length kinds → value_of_column i ≡ Ok value
      → try_append front (values_after i) ≡ defined → try_append (front ++ value ∷ []) (values_after (i + 1)) ≡ defined
  values_after-more front i defined value lt read so_far =
      sym (try_append-try_cons front value (value_of_column i) (values_after (i + 1)) read)
      ∙ sym (ap (try_append front) (values_after-step i lt)) ∙ so_far

  -- a cell that is refused stops the row
  pub values_after-stop : (front : List Value) (i : ℕ) (defined : Result (List Value) LoadStop) (stop : LoadStop)
      → i < length kinds → value_of_column i ≡ Err stop
      → try_append front (values_after i) ≡ defined → defined ≡ Err stop
  values_after-stop front i defined stop lt refused so_far =
      sym so_far ∙ ap (try_append front) (values_after-step i lt)
      ∙ try_append-stop front stop (value_of_column i) (values_after (i + 1)) refused

  -- all values of the row
  abbrev pub values_of_row : Result (List Value) LoadStop
  values_of_row = values_from row keys kinds positions fields

  from_first : values_of_row ≡ values_after 0
  from_first = let start : keys ≡ keys + 0 = omega arith in ap (λ (k : ℕ). values_from row k kinds positions fields) start

  -- rows of one value and of two
  pub values_of_one : (first : Value) → length kinds ≡ 1 → value_of_column 0 ≡ Ok first → values_of_row ≡ Ok (first ∷ [])
  values_of_one first one read =
      from_first ∙ values_after-step 0 (omega arith) ∙ rw (read, values_after-done 1 (omega arith)) refl

  pub values_of_two : (first second : Value) → length kinds ≡ 2 → value_of_column 0 ≡ Ok first → value_of_column 1 ≡ Ok second
      → values_of_row ≡ Ok (first ∷ second ∷ [])
  values_of_two first second two read more =
      from_first ∙ values_after-step 0 (omega arith)
      ∙ rw (read, values_after-step 1 (omega arith), more, values_after-done 2 (omega arith)) refl

  -- the first of them that is refused
  pub values_stop_first : (stop : LoadStop) → 0 < length kinds → value_of_column 0 ≡ Err stop → values_of_row ≡ Err stop
  values_stop_first stop some refused = from_first ∙ values_after-step 0 some ∙ rw refused refl

  pub values_stop_second : (first : Value) (stop : LoadStop) → 1 < length kinds → value_of_column 0 ≡ Ok first → value_of_column 1 ≡ Err stop
      → values_of_row ≡ Err stop
  values_stop_second first stop some read refused =
      from_first ∙ values_after-step 0 (omega arith) ∙ rw (read, values_after-step 1 some, refused) refl
