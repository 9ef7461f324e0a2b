-- The values in the cells of a data file, or what a cell is refused as.
use Rattle.std.specs.Prelude.{◌≡◌, ℕ, ℤ, pos, neg_ℤ, nat_lt, if◌then◌else◌, List, [], ◌∷◌, length, option_map, ok_or, Result, Ok, Err, codes, refl}
use Rattle.std.specs.Str.{chars, is_utf8}
use lib.Utf8.{encode}
use Rattle.gx_rows.specs.Bounds.{MOST_LIST_ENTRIES, MOST_TEXT_BYTES}
use Rattle.gx_rows.specs.Results.{◌>>=◌, try_cons}
use Rattle.gx_rows.specs.declared.value.Value.{Value}
use Rattle.gx_rows.specs.declared.value.Value.TheVariants as value
use Rattle.gx_rows.specs.declared.value.ValueKind.{ValueKind}
use Rattle.gx_rows.specs.declared.value.ValueKind.TheVariants as kind
use Rattle.gx_load.specs.Ascending.{ascending}
use Rattle.gx_load.specs.Cells.{bool_of, int_of, is_blank, number_of, trim, words_of}
use Rattle.gx_load.specs.declared.load_stop.CellKind.{CellKind}
use Rattle.gx_load.specs.declared.load_stop.CellKind.TheVariants as cell_kind

-- the text in a cell: its bytes, which must be UTF-8 and not too many
unfoldable pub text_of_cell : List ℕ → Result (List ℕ) CellKind
text_of_cell cell =
    if is_utf8 cell
    then (if nat_lt MOST_TEXT_BYTES (length cell) then Err cell_kind.TextTooLong else Ok cell)
    else Err cell_kind.NotText

-- the numbers that these words spell, each of which must spell one
unfoldable pub numbers_in : List (List ℕ) → Result (List ℤ) CellKind
numbers_in [] = Ok []
numbers_in (word ∷ words) = try_cons (ok_or (number_of word) cell_kind.NotIds) (numbers_in words)

-- the ascending list of these numbers, which must not be too many
abbrev pub list_of_numbers : List ℤ → Result (List ℤ) CellKind
list_of_numbers numbers =
    if nat_lt MOST_LIST_ENTRIES (length numbers) then Err cell_kind.ListTooLong else Ok (ascending numbers)

-- the list in a cell: numbers with spaces and tabs between them and around them
unfoldable pub ids_of_cell : List ℕ → Result (List ℤ) CellKind
ids_of_cell cell = numbers_in (words_of is_blank cell) >>= list_of_numbers

-- the value of this kind in a cell
abbrev pub cell_value : ValueKind → List ℕ → Result Value CellKind
cell_value kind.Int cell = ok_or (option_map value.Int (int_of cell)) cell_kind.NotInt
cell_value kind.Text cell = text_of_cell cell >>= λ bytes. Ok (value.Text bytes)
cell_value kind.Bool cell = ok_or (option_map value.Bool (bool_of cell)) cell_kind.NotBool
cell_value kind.Ids cell = ids_of_cell cell >>= λ ids. Ok (value.Ids ids)

-- one cell under three kinds
cell_value-int : cell_value kind.Int (codes " 7\t") ≡ Ok (value.Int (pos 7))
unfolding int_of number_of trim
cell_value-int = refl

cell_value-text : cell_value kind.Text (codes " 7\t") ≡ Ok (value.Text (codes " 7\t"))
unfolding text_of_cell is_utf8 chars encode
cell_value-text = refl

cell_value-ids : cell_value kind.Ids (codes " 7\t-1 7") ≡ Ok (value.Ids (neg_ℤ (pos 1) ∷ pos 7 ∷ pos 7 ∷ []))
unfolding ids_of_cell numbers_in words_of number_of ascending
cell_value-ids = refl

-- a list of no number, and one of a word that is not a number
cell_value-no_ids : (cell_value kind.Ids (codes " \t") ≡ Ok (value.Ids [])) × (cell_value kind.Ids (codes "1,2") ≡ Err cell_kind.NotIds)
unfolding ids_of_cell numbers_in words_of number_of ascending
cell_value-no_ids = (refl, refl)
