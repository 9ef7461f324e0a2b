use Rattle.std.proofs.Common.{◌*◌}
use Rattle.gx_mask.proofs.Searching.{HasNone}
use Rattle.gx_mask.proofs.mask.Mask.next_set.Given as goal

abbrev pub invariant-u64s : goal.invariant-u64s
invariant-u64s l = HasNone l.self-inside.u64s.items l.from (64 * l.q)
