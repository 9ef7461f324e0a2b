-- The text of rows, as `csv` writes them.
use Rattle.std.specs.Prelude.{◌≡◌, ℕ, pos, negsuc, true, List, [], ◌∷◌, ◌++◌, map, codes, refl}
use Rattle.std.specs.Fmt.{digits}
use Rattle.std.specs.List.{flat_map}
use Rattle.csv.specs.Writing.{default_writer, escaped, fields_text, is_blank, row_text, with_flexible}
use Rattle.csv.specs.declared.writer.WriterBuilder.{WriterBuilder}
use Rattle.gx_rows.specs.declared.value.Value.{Value}
use Rattle.gx_rows.specs.declared.value.Value.TheVariants as value
use Rattle.gx_print.specs.Fields.{value_field}

-- how `csv` writes by default, but lines may differ in their number of fields
abbrev pub line_writer : WriterBuilder
line_writer = with_flexible default_writer true

-- the line of these fields: commas between, quotes where they are needed, and a line feed
unfoldable pub line_of_fields : List (List ℕ) → List ℕ
line_of_fields fields = row_text line_writer fields

-- the line of a row
abbrev pub line_of_row : List Value → List ℕ
line_of_row row = line_of_fields (map value_field row)

-- the text of rows: the line of their header, and that of each row in order
abbrev pub text_of_rows : List (List ℕ) → List (List Value) → List ℕ
text_of_rows header rows = line_of_fields header ++ flat_map line_of_row rows

-- a row of each kind, one of a text that is quoted, and one of an empty list
mixed_rows : text_of_rows (codes "id" ∷ codes "value" ∷ [])
    ((value.Int (pos 30) ∷ value.Int (negsuc 6) ∷ [])
    ∷ (value.Int (pos 2) ∷ value.Text (codes "a,\"b\"") ∷ [])
    ∷ (value.Int (pos 3) ∷ value.Bool true ∷ [])
    ∷ (value.Int (pos 4) ∷ value.Ids (pos 1 ∷ pos 1 ∷ pos 20 ∷ []) ∷ [])
    ∷ (value.Int (pos 5) ∷ value.Ids [] ∷ []) ∷ [])
    ≡ codes "id,value\n30,-7\n2,\"a,\"\"b\"\"\"\n3,true\n4,1 1 20\n5,\n"
unfolding line_of_fields digits escaped fields_text is_blank
mixed_rows = refl

-- an empty text alone in its row is quoted, so that its line is not empty
empty_field : line_of_row (value.Text [] ∷ []) ≡ codes "\"\"\n"
unfolding line_of_fields fields_text is_blank
empty_field = refl
