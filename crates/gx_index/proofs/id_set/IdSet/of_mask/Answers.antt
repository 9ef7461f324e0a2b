use Rattle.std.proofs.Common.{arith}
use Rattle.gx_index.proofs.id_set.IdSet.of_mask.Goals as goal

pub invariant_of-result : goal.invariant_of-result
invariant_of-result c = record {
  few = omega (arith, c.len-len.ensures.fits_u32, c.requires.one_bool_each);
  ascending = c.requires.ascending;
  one_bool_each = c.requires.one_bool_each;
}
