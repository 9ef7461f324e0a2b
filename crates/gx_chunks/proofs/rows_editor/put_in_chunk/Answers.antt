use Rattle.std.proofs.Common.{◌≡◌, ◌++◌, ◌∷◌, [], length, ap, ◌∙◌, arith}
use Rattle.std.specs.List.{slice_range}
use Rattle.gx_chunks.proofs.Edits.{put-after}
use Rattle.gx_chunks.proofs.rows_editor.put_in_chunk.Goals as goal

pub returns-clause-rows : goal.returns-clause-rows
returns-clause-rows c =
    let first = c.args.first.now.items in
    let kept = c.make_room.ensures in
    let many : c.len.result ≡ length first = omega (arith, c.len.ensures, c.make_room.new.first.ok.0, ap length kept) in
    let copied : c.append_copies.new.rows.items ≡ first ++ slice_range c.args.chunk.now (length first) c.args.slot =
    c.in_ok-append_copies.ensures.exact ∙ ap (λ xs. xs ++ slice_range c.args.chunk.now c.len.result c.args.slot) kept ∙ ap (λ n. first ++ slice_range c.args.chunk.now n c.args.slot) many in
    put-after first c.args.chunk.now c.push.new.self.items c.args.slot c.args.row c.requires.from c.requires.within
    (c.in_ok-push.ensures.items ∙ ap (λ xs. xs ++ c.args.row ∷ []) copied)
