use Rattle.std.proofs.Common.{◌≡◌, vec_len}
use Rattle.csv.specs.Records.{fields_of}
use Rattle.gx_rows.specs.Results.{try_append}
use Rattle.gx_load.proofs.RowLemmas.{values_after}
use Rattle.gx_load.specs.Loading.{values_from}
use Rattle.gx_load.proofs.row_cells.values_of.Given as goal

abbrev pub invariant-loop-i : goal.invariant-loop-i
invariant-loop-i l = record {
  so_far : try_append l.values.items (values_after l.row l.header.keys l.header.kinds.items l.header.positions.items (fields_of l.fields) l.i)
      ≡ values_from l.row l.header.keys l.header.kinds.items l.header.positions.items (fields_of l.fields);
  filled : vec_len l.values ≡ l.i;
  all : l.count ≡ vec_len l.header.kinds;
}
