-- The edges of an edge list, or the first line that is refused.
use Rattle.std.specs.Prelude.{◌≡◌, ℕ, ℤ, pos, ◌+◌, ◌==◌, ◌||◌, ◌&&◌, not, Bool, true, false, if◌then◌else◌, int_lt, List, [], ◌∷◌, filter, codes, Option, None, option_and_then, option_map, ok_or, Result, Ok, Err, refl}
use Rattle.std.specs.List.{slice_split}
use Rattle.csv.specs.Reading.{strip_bom}
use Rattle.gx_rows.specs.declared.value.Value.{Value}
use Rattle.gx_rows.specs.declared.value.Value.TheVariants as value
use Rattle.gx_load.specs.Cells.{is_blank, number_of, words_of}
use Rattle.gx_load.specs.Loading.{LoadedRow, rows_from}
use Rattle.gx_load.specs.declared.load_stop.LoadStop.{LoadStop}
use Rattle.gx_load.specs.declared.load_stop.LoadStop.TheVariants as load_stop
use Rattle.gx_load.specs.declared.load_stop.RowStop.TheVariants as row_stop

-- a space, a tab or a carriage return
abbrev pub is_line_space : ℕ → Bool
is_line_space byte = is_blank byte || (byte == 13)

-- the byte that ends a line
abbrev pub is_line_feed : ℕ → Bool
is_line_feed byte = byte == 10

-- the items, each with its number, from this number on
abbrev pub numbered_from : {A : Type 0} → ℕ → List A → List (ℕ × A)
numbered_from n [] = []
numbered_from n (x ∷ xs) = (n, x) ∷ numbered_from (n + 1) xs

-- a line of these words has an edge: it has a word, and does not begin with `#`
abbrev pub has_edge : List (List ℕ) → Bool
has_edge [] = false
has_edge ([] ∷ words) = true
has_edge ((byte ∷ rest) ∷ words) = not (byte == 35)

-- the lines that have an edge, each with its number, from this number on
unfoldable pub edge_lines_from : ℕ → List ℕ → List (ℕ × List ℕ)
edge_lines_from line text =
    filter (λ l. has_edge (words_of is_line_space l.1)) (numbered_from line (slice_split is_line_feed text))

-- the two ends of an edge: the numbers that the first two words spell
abbrev pub ends_in : List (List ℕ) → Option (ℤ × ℤ)
ends_in [] = None
ends_in (word ∷ []) = None
ends_in (first ∷ second ∷ ignored) =
    option_and_then (λ source. option_map (λ target. (source, target)) (number_of second)) (number_of first)

-- the row of each edge of an edge list
abbrev pub edge_row : List Value
edge_row = value.Int (pos 1) ∷ []

-- the edge between these two; in an oriented list the source is not the larger
abbrev pub edge_between : Bool → ℤ × ℤ → LoadedRow
edge_between oriented ends =
    if oriented && int_lt ends.1 ends.0
    then (record { 0 = ends.1 }, record { 0 = ends.0 }, edge_row)
    else (record { 0 = ends.0 }, record { 0 = ends.1 }, edge_row)

-- the edge of a line, which must begin with two numbers
abbrev pub edge_at : Bool → ℕ × List ℕ → Result LoadedRow LoadStop
edge_at oriented line =
    ok_or (option_map (edge_between oriented) (ends_in (words_of is_line_space line.1)))
    (load_stop.Data (row_stop.Line line.0))

-- the edges of an edge list, after one byte order mark; its lines are numbered from 1
abbrev pub rows_of_edge_list : Bool → List ℕ → Result (List LoadedRow) LoadStop
rows_of_edge_list oriented bytes =
    rows_from (λ row line. edge_at oriented line) 1 (edge_lines_from 1 (strip_bom bytes))

-- a comment, an empty line, and words after an edge
rows_of_edge_list-worked :
    rows_of_edge_list false (codes "# follower\n1 2\n2\t3\n\n3 1 extra")
    ≡ Ok ((record { 0 = pos 1 }, record { 0 = pos 2 }, edge_row) ∷ (record { 0 = pos 2 }, record { 0 = pos 3 }, edge_row) ∷ (record { 0 = pos 3 }, record { 0 = pos 1 }, edge_row) ∷ [])
unfolding rows_from edge_lines_from words_of number_of strip_bom
rows_of_edge_list-worked = refl

-- a line of one number
rows_of_edge_list-one_number :
    rows_of_edge_list true (codes "4 4\n\n4") ≡ Err (load_stop.Data (row_stop.Line 3))
unfolding rows_from edge_lines_from words_of number_of strip_bom
rows_of_edge_list-one_number = refl
