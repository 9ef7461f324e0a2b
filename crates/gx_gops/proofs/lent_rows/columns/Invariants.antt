use Rattle.std.proofs.Common.{◌≡◌, ◌++◌, length}
use Rattle.std.specs.Map.{keys_of, values_of}
use Rattle.gx_vpart.specs.LentRows.{vertices_lent}
use Rattle.gx_gops.proofs.lent_rows.columns.Given as goal

-- the columns so far and those of the rest are all
abbrev pub invariant-loop-rest : goal.invariant-loop-rest
invariant-loop-rest l = record {
  ids : l.ids.items ++ keys_of (vertices_lent l.rest) ≡ keys_of (vertices_lent l.rows);
  rows : l.copies ++ values_of (vertices_lent l.rest) ≡ values_of (vertices_lent l.rows);
}

abbrev pub decreases-loop-rest : goal.decreases-loop-rest
decreases-loop-rest l = length l.rest
