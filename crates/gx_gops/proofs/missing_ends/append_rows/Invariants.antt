use Rattle.std.proofs.Common.{◌≡◌, ◌++◌}
use Rattle.gx_gops.proofs.missing_ends.append_rows.Given as goal

-- the rows so far and those that are left are all rows
abbrev pub invariant-rows : goal.invariant-rows
invariant-rows l = record {
  can : goal.iterator-rows.can_next l.id-iterator;
  ends : goal.iterator-rows.is_finite l.id-iterator;
  so_far : l.all.items ++ l.id-iterator ≡ l.fn.all.items ++ l.initial.id-iterator;
}
