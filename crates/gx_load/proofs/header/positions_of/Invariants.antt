use Rattle.std.proofs.Common.{◌≡◌, ◌+◌, ◌++◌, length, vec_len, drop}
use Rattle.csv.specs.Records.{fields_of}
use Rattle.gx_rows.specs.Columns.{names_of}
use Rattle.gx_rows.specs.Results.{try_append}
use Rattle.gx_load.specs.Loading.{key_names, positions_from}
use Rattle.gx_load.proofs.header.positions_of.Given as goal

abbrev pub invariant-loop-column : goal.invariant-loop-column
invariant-loop-column l =
    let names = key_names l.keys ++ names_of l.columns in
    record {
      so_far : try_append l.positions.items (positions_from l.column (drop l.column names) (fields_of l.header)) ≡ positions_from 0 names (fields_of l.header);
      filled : vec_len l.positions ≡ l.column;
      all : l.count ≡ l.keys + length l.columns;
    }
