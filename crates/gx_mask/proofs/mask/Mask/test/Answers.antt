use Rattle.std.proofs.Common.{arith}
use Rattle.gx_mask.proofs.Represents.{has_u64, represents, tested}
use Rattle.gx_mask.proofs.mask.Mask.test.Goals as goal

pub index-requires : goal.index-requires
index-requires c = omega (arith, has_u64 c.args.i (represents c.self.invariant c.self.view_is) c.requires)

pub returns : goal.returns
returns c = tested _ _ (represents c.self.invariant c.self.view_is) c.requires c.index.ensures
