use Rattle.std.proofs.Common.{ap, refl}
use Rattle.gx_chunks.proofs.Chunks.{HasChunksOf-full, items_of_chunks-push, shared_chunks-push}
use Rattle.gx_chunks.proofs.rows_builder.RowsBuilder.finish.Goals as goal

pub of_chunks-requires : goal.of_chunks-requires
of_chunks-requires c =
    rw (shared_chunks-push _ _ _ _ c.in_ok-push.ensures.items (ap (λ v. v.items) c.in_ok-new.ensures.ok)) (HasChunksOf-full 32 _ _ c.self.invariant)

pub returns : goal.returns
returns c =
    rw (c.of_chunks.ensures, shared_chunks-push _ _ _ _ c.in_ok-push.ensures.items (ap (λ v. v.items) c.in_ok-new.ensures.ok), items_of_chunks-push, ← c.self.view_is) refl
