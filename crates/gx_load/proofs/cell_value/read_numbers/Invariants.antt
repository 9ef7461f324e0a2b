use Rattle.std.proofs.Common.{◌≡◌, length}
use Rattle.gx_rows.specs.Results.{try_append}
use Rattle.gx_load.specs.Cells.{is_blank, words_of}
use Rattle.gx_load.specs.CellValues.{numbers_in}
use Rattle.gx_load.proofs.cell_value.read_numbers.Given as goal

abbrev pub invariant-words : goal.invariant-words
invariant-words l = record {
  so_far : try_append l.numbers.items (numbers_in l.words) ≡ numbers_in (words_of is_blank l.cell);
}

abbrev pub decreases-words : goal.decreases-words
decreases-words l = length l.words
