use Rattle.std.proofs.Common.{[], ◌∷◌, ◌++◌, ◌∙◌, ap, sym}
use Rattle.gx_types_clauses.proofs.ColumnLemmas.{kinds-more}
use Rattle.gx_types_clauses.proofs.merging.kinds_of.Goals as goal

pub columns-preserved : goal.columns-preserved
columns-preserved c = record {
  so_far = c.in_ok-push.ensures.ok ∙ ap (λ ks. ks ++ c.kind.result ∷ []) c.columns.invariant.so_far ∙ sym (kinds-more c.args.columns.now c.columns.i c.kind.result c.kind.ensures);
  all = c.columns.invariant.all;
}
