use Rattle.std.proofs.Common.{ap, ◌++◌, ◌∷◌, []}
use Rattle.gx_load.proofs.HeaderLemmas.{kinds-more}
use Rattle.gx_load.proofs.header.kinds_of.Goals as goal

pub loop-i-preserved : goal.loop-i-preserved
loop-i-preserved c = record {
  so_far = rw (c.in_ok-push.ensures.items, kinds-more c.args.columns.now c.loop-i.i c.kind.result c.kind.ensures) (ap (λ ks. ks ++ c.kind.result ∷ []) c.loop-i.invariant.so_far);
  all = c.loop-i.invariant.all;
}
