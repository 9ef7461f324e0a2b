use Rattle.std.proofs.Common.{◌≡◌, ◌+◌, ◌*◌, ◌%◌, Some, length, slice_get, set, sym, ap, ◌∙◌, arith}
use Rattle.gx_chunks.specs.Chunks.{shared_chunks}
use Rattle.gx_chunks.specs.Editing.{Edited}
use Rattle.gx_chunks.proofs.Edits.{IsEdit-put, IsSlotChunk-read, OnOk-weaker, chunk-below, edited_items-put, length-shared, slot_chunk}
use Rattle.gx_chunks.proofs.rows_editor.RowsEditor.put.Goals as goal

pub pass_chunks-requires-clause-within : goal.pass_chunks-requires-clause-within
pass_chunks-requires-clause-within c =
    let e = c.self.inside in
    let found = slot_chunk e.chunks.now e.done.items e.first.items _ _ c.args.slot c.self.invariant (ap (λ (v : Edited). v.rows) c.self.view_is) (ap (λ (v : Edited). v.next) c.self.view_is) c.requires.ascending c.requires.in_range in
    omega (arith, chunk-below 32 c.args.slot (shared_chunks e.chunks.now) found, length-shared e.chunks.now)

pub bounds-self-inside-i : goal.bounds-self-inside-i
bounds-self-inside-i c =
    let e = c.self.inside in
    let found = slot_chunk e.chunks.now e.done.items e.first.items _ _ c.args.slot c.self.invariant (ap (λ (v : Edited). v.rows) c.self.view_is) (ap (λ (v : Edited). v.next) c.self.view_is) c.requires.ascending c.requires.in_range in
    omega (arith, chunk-below 32 c.args.slot (shared_chunks e.chunks.now) found, length-shared e.chunks.now)

pub put_in_chunk-requires-clause-within : goal.put_in_chunk-requires-clause-within
put_in_chunk-requires-clause-within c =
    let e = c.self.inside in
    let found = slot_chunk e.chunks.now e.done.items e.first.items _ _ c.args.slot c.self.invariant (ap (λ (v : Edited). v.rows) c.self.view_is) (ap (λ (v : Edited). v.next) c.self.view_is) c.requires.ascending c.requires.in_range in
    let reads : c.as_slice-chunk.result.now ≡ c.index-self-i.result.value.items = c.as_slice-chunk.ensures.value ∙ ap (λ v. v.items) (c.deref.ensures ∙ ap (λ r. r.value) (sym c.index-self-i.is)) in
    (IsSlotChunk-read e.chunks.now c.args.slot c.index-self-i.result _ found c.index-self-i.is reads).within

pub invariant_of-self-2 : goal.invariant_of-self-2
invariant_of-self-2 c =
    let e = c.self.inside in
    let found = slot_chunk e.chunks.now e.done.items e.first.items _ _ c.args.slot c.self.invariant (ap (λ (v : Edited). v.rows) c.self.view_is) (ap (λ (v : Edited). v.next) c.self.view_is) c.requires.ascending c.requires.in_range in
    let reads : c.as_slice-chunk.result.now ≡ c.index-self-i.result.value.items = c.as_slice-chunk.ensures.value ∙ ap (λ v. v.items) (c.deref.ensures ∙ ap (λ r. r.value) (sym c.index-self-i.is)) in
    let here = IsSlotChunk-read e.chunks.now c.args.slot c.index-self-i.result _ found c.index-self-i.is reads in
    let passed = c.in_ok-pass_chunks.ensures in
    let at : slice_get (shared_chunks e.chunks.now) (length (shared_chunks c.pass_chunks.new.done.items)) ≡ Some c.as_slice-chunk.result.now = rw (length-shared c.pass_chunks.new.done.items, passed.passed) here.at in
    IsEdit-put 32 (shared_chunks c.pass_chunks.new.done.items) c.pass_chunks.new.first.items c.put_in_chunk.new.first.items (shared_chunks e.chunks.now) c.as_slice-chunk.result.now passed.edit at
    (omega (arith, c.put_in_chunk.ensures.not_over, here.within))

pub returns-clause-rows : goal.returns-clause-rows
returns-clause-rows c =
    let e = c.self.inside in
    let same = ap (λ (v : Edited). v.rows) c.self.view_is in
    let found = slot_chunk e.chunks.now e.done.items e.first.items _ _ c.args.slot c.self.invariant same (ap (λ (v : Edited). v.next) c.self.view_is) c.requires.ascending c.requires.in_range in
    let reads : c.as_slice-chunk.result.now ≡ c.index-self-i.result.value.items = c.as_slice-chunk.ensures.value ∙ ap (λ v. v.items) (c.deref.ensures ∙ ap (λ r. r.value) (sym c.index-self-i.is)) in
    let here = IsSlotChunk-read e.chunks.now c.args.slot c.index-self-i.result _ found c.index-self-i.is reads in
    let passed = c.in_ok-pass_chunks.ensures in
    let done = shared_chunks c.pass_chunks.new.done.items in
    let at : slice_get (shared_chunks e.chunks.now) (length done) ≡ Some c.as_slice-chunk.result.now = rw (length-shared c.pass_chunks.new.done.items, passed.passed) here.at in
    let place : c.args.slot ≡ 32 * length done + c.args.slot % 32 = omega (arith, length-shared c.pass_chunks.new.done.items, passed.passed) in
    OnOk-weaker _ _ c.put_in_chunk.result
    (λ put. edited_items-put 32 c.args.slot (c.args.slot % 32) done c.pass_chunks.new.first.items c.put_in_chunk.new.first.items (shared_chunks e.chunks.now) c.as_slice-chunk.result.now c.args.row
    passed.edit at (omega (arith, c.put_in_chunk.ensures.not_over, here.within)) here.within place put
    ∙ ap (λ rows. set rows c.args.slot c.args.row) (passed.same ∙ same))
    c.put_in_chunk.ensures.rows
