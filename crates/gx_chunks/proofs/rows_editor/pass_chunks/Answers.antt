use Rattle.std.proofs.Common.{◌≡◌, ◌+◌, ◌<◌, [], ◌∷◌, length, refl, ap, ◌∙◌, arith, length-append}
use Rattle.gx_chunks.specs.Chunks.{shared_chunks}
use Rattle.gx_chunks.proofs.Chunks.{shared_chunks-push}
use Rattle.gx_chunks.proofs.Edits.{IsEdit-pass, edited_items-pass, length-shared, old_chunk}
use Rattle.gx_chunks.proofs.rows_editor.pass_chunks.Goals as goal

pub chunks-preserved : goal.chunks-preserved
chunks-preserved c =
    let inv = c.chunks.invariant in
    let old = shared_chunks c.args.chunks.now in
    let done = shared_chunks c.chunks.done.items in
    let many : length done ≡ c.len-in-chunks.result = omega (arith, length-shared c.chunks.done.items, c.len-in-chunks.ensures, c.chunks.done.ok.0) in
    let before : c.len-in-chunks.result < length c.args.chunks.now = omega (arith, many, length-shared c.chunks.done.items, c.len.ensures, c.chunks.done.ok.0, c.chunks-test.true) in
    let at = old_chunk c.args.chunks.now c.len-in-chunks.result (length done) c.index-chunks-len.result many before c.index-chunks-len.is in
    let one_more = shared_chunks-push c.push.new.self.items c.chunks.done.items c.in_ok-chunk.chunk _ c.in_ok-push.ensures.items refl in
    let longer : length c.push.new.self.items ≡ length c.chunks.done.items + 1 = omega (arith, ap length c.in_ok-push.ensures.items, length-append c.chunks.done.items (c.in_ok-chunk.chunk ∷ [])) in
    record {
      edit = rw (one_more, c.in_ok-chunk.ensures.none) (IsEdit-pass 32 done c.chunks.first.items old _ c.in_ok-chunk.chunk.value.items inv.edit at c.in_ok-chunk.ensures.rows);
      same = rw (one_more, c.in_ok-chunk.ensures.none) (edited_items-pass 32 done c.chunks.first.items old _ c.in_ok-chunk.chunk.value.items inv.edit at c.in_ok-chunk.ensures.rows) ∙ inv.same;
      up_to = omega (arith, longer, c.len.ensures, c.chunks.done.ok.0, c.chunks-test.true);
      from = omega (arith, longer, inv.from);
      fewer = omega (arith, ap length c.in_ok-chunk.ensures.none);
      none = λ more. c.in_ok-chunk.ensures.none;
    }
