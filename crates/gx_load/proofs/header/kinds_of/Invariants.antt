use Rattle.std.proofs.Common.{◌≡◌, map, take, length}
use Rattle.gx_load.proofs.header.kinds_of.Given as goal

abbrev pub invariant-loop-i : goal.invariant-loop-i
invariant-loop-i l = record {
  so_far : l.kinds.items ≡ map (λ c. c.1) (take l.i l.columns);
  all : l.count ≡ length l.columns;
}
