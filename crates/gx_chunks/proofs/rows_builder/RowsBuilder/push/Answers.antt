use Rattle.std.proofs.Common.{ap, refl}
use Rattle.gx_chunks.proofs.Chunks.{items_of_chunks-push, shared_chunks-push}
use Rattle.gx_chunks.proofs.rows_builder.RowsBuilder.push.Goals as goal

pub returns : goal.returns
returns c =
    rw (shared_chunks-push _ _ _ _ c.in_ok-push-2.ensures.items (ap (λ v. v.items) c.in_ok-new.ensures.ok), items_of_chunks-push, c.replace-chunk.ensures.value, c.in_ok-push-3.ensures.items, c.replace-chunk.ensures.after, c.in_ok-empty.ensures.items, ← c.self.view_is) refl
