-- Results of cells, and the numbers of a list word by word.
use Rattle.std.proofs.Common.{◌≡◌, ◌<◌, ◌≤◌, length, ◌∙◌, ℕ, ℤ, Bool, true, false, cond, [], ◌∷◌, ◌++◌, List, None, Some, Result, Ok, Err, refl, sym}
use Rattle.std.specs.Prelude.{ok_or, nat_lt}
use Rattle.std.proofs.lemmas.Bool.{le-ltb, lt-ltb}
use Rattle.gx_rows.specs.Bounds.{MOST_LIST_ENTRIES, MOST_TEXT_BYTES}
use Rattle.std.specs.Result.{IsErrAnd}
use Rattle.std.specs.Str.{IsUtf8, is_utf8}
use Rattle.std.proofs.lemmas.Str.{IsUtf8-from_is_utf8, is_utf8-from_IsUtf8}
use Rattle.gx_rows.specs.Results.{try_append, try_append-done, try_append-stop, try_append-try_cons}
use Rattle.gx_load.specs.Ascending.{ascending}
use Rattle.gx_load.specs.Cells.{is_blank, number_of, words_of}
use Rattle.gx_load.specs.CellValues.{ids_of_cell, numbers_in, text_of_cell}
use Rattle.gx_load.specs.LoadResults.{GivesOfCell}
use Rattle.gx_load.specs.declared.cell_value.CellStop.{CellStop}
use Rattle.gx_load.specs.declared.cell_value.CellStop.TheVariants as cell_stop
use Rattle.gx_load.specs.declared.load_stop.CellKind.{CellKind}
use Rattle.gx_load.specs.declared.load_stop.CellKind.TheVariants as cell_kind

-- the next word spells a number
pub numbers_in-more : (front : List ℤ) (word : List ℕ) (words rest : List (List ℕ)) (number : ℤ) (defined : Result (List ℤ) CellKind)
    → words ≡ word ∷ rest → number_of word ≡ Some number
    → try_append front (numbers_in words) ≡ defined → try_append (front ++ number ∷ []) (numbers_in rest) ≡ defined
unfolding numbers_in
numbers_in-more front word words rest number defined next spelled so_far =
    let step : ok_or (number_of word) cell_kind.NotIds ≡ Ok number = rw spelled refl in
    sym (try_append-try_cons front number (ok_or (number_of word) cell_kind.NotIds) (numbers_in rest) step) ∙ rw next at so_far

-- the next word spells none
pub numbers_in-stop : (front : List ℤ) (word : List ℕ) (words rest : List (List ℕ)) (defined : Result (List ℤ) CellKind)
    → words ≡ word ∷ rest → number_of word ≡ None
    → try_append front (numbers_in words) ≡ defined → defined ≡ Err cell_kind.NotIds
unfolding numbers_in
numbers_in-stop front word words rest defined next none so_far =
    let step : ok_or (number_of word) cell_kind.NotIds ≡ Err cell_kind.NotIds = rw none refl in
    sym (rw next at so_far) ∙ try_append-stop front cell_kind.NotIds (ok_or (number_of word) cell_kind.NotIds) (numbers_in rest) step

-- no word is left
pub numbers_in-done : (front : List ℤ) (words : List (List ℕ)) (defined : Result (List ℤ) CellKind)
    → words ≡ [] → try_append front (numbers_in words) ≡ defined → defined ≡ Ok front
unfolding numbers_in
numbers_in-done front words defined none so_far = sym so_far ∙ try_append-done front (numbers_in words) (rw none refl)

-- ---- texts

pub text_of_cell-short : (cell : List ℕ) → IsUtf8 cell → length cell ≤ MOST_TEXT_BYTES → text_of_cell cell ≡ Ok cell
unfolding text_of_cell
text_of_cell-short cell utf8 short = rw (is_utf8-from_IsUtf8 cell utf8, le-ltb MOST_TEXT_BYTES (length cell) short) refl

pub text_of_cell-long : (cell : List ℕ) → IsUtf8 cell → MOST_TEXT_BYTES < length cell → text_of_cell cell ≡ Err cell_kind.TextTooLong
unfolding text_of_cell
text_of_cell-long cell utf8 long = rw (is_utf8-from_IsUtf8 cell utf8, lt-ltb MOST_TEXT_BYTES (length cell) long) refl

pub text_of_cell-not_utf8 : (cell : List ℕ) → ¬ (IsUtf8 cell) → text_of_cell cell ≡ Err cell_kind.NotText
unfolding text_of_cell
text_of_cell-not_utf8 cell not_utf8 = go (is_utf8 cell) refl
  where
    go : (b : Bool) → is_utf8 cell ≡ b → cond b (cond (nat_lt MOST_TEXT_BYTES (length cell)) (Err cell_kind.TextTooLong) (Ok cell)) (Err cell_kind.NotText) ≡ Err cell_kind.NotText
    go true is = absurd (not_utf8 (IsUtf8-from_is_utf8 cell is))
    go false is = refl

-- ---- lists

pub ids_of_cell-short : (cell : List ℕ) (numbers : List ℤ) → numbers_in (words_of is_blank cell) ≡ Ok numbers
    → length numbers ≤ MOST_LIST_ENTRIES → ids_of_cell cell ≡ Ok (ascending numbers)
unfolding ids_of_cell
ids_of_cell-short cell numbers spelled short = rw (spelled, le-ltb MOST_LIST_ENTRIES (length numbers) short) refl

pub ids_of_cell-long : (cell : List ℕ) (numbers : List ℤ) → numbers_in (words_of is_blank cell) ≡ Ok numbers
    → MOST_LIST_ENTRIES < length numbers → ids_of_cell cell ≡ Err cell_kind.ListTooLong
unfolding ids_of_cell
ids_of_cell-long cell numbers spelled long = rw (spelled, lt-ltb MOST_LIST_ENTRIES (length numbers) long) refl

-- a cell of a word that is not a number is not a list; `?` carried that
pub ids_of_cell-refused : {A : Type 0} (result : Result A CellStop) (stop : CellStop) (view : A → List ℤ) (cell : List ℕ) {C : Type 0} (inner : C → List ℤ)
    → IsErrAnd result (λ e. e ≡ stop) → GivesOfCell inner (Err stop) (numbers_in (words_of is_blank cell)) → GivesOfCell view result (ids_of_cell cell)
unfolding ids_of_cell
ids_of_cell-refused (Ok x) stop view cell inner h given = absurd h
ids_of_cell-refused (Err d) cell_stop.NoMemory view cell inner h given = rw h tt
ids_of_cell-refused (Err d) (cell_stop.Refused kind) view cell inner h given = rw (h, given) refl
