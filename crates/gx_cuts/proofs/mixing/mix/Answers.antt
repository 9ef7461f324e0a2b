use Rattle.std.proofs.Common.{refl, w64}
use Rattle.std.proofs.lemmas.Int.{to_z-of_z}
use Rattle.gx_cuts.specs.Mixing.{mix_of}
use Rattle.gx_cuts.proofs.mixing.mix.Goals as goal

pub returns : goal.returns
unfolding mix_of
returns c = rw (c.cast_unsigned-z.ensures, to_z-of_z w64 c.args.x c.ranges.x) refl
