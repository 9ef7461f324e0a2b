use Rattle.std.proofs.Common.{◌≡◌, ◌≤◌, ◌<◌, ◌+◌, ℕ, List, ◌++◌, Option, None, Some, length, take, drop, min, option_map, sym, ap, ◌∙◌, arith}
use Rattle.std.proofs.lemmas.List.{drop-drop, drop_all, length-take-le, length-take, length-drop, length-append, take_at, take-append-drop}
use Rattle.std.specs.Io.KnownBytes.{Consumes, IsAtEnd}
use Rattle.gx_outside.specs.MemFiles.{FilesState, bytes_at}
use Rattle.gx_outside.proofs.mem_files.MemFilesFiles.read.Goals as goal

-- the bytes copied to the start of a buffer, and then the others
prefix : (rest old : List ℕ) (n : ℕ) → n ≤ length rest → rest ≡ take n (take n rest ++ drop n old) ++ drop n rest
prefix rest old n fits =
    let size : length (take n rest) ≡ n = length-take-le n rest fits in
    rw (take_at (take n rest) (drop n old) n size) (sym (take-append-drop n rest))

-- what a copy to the start of a buffer consumes of a file that was read up to an offset
consumed : (remaining whole : Option (List ℕ)) (rest old new : List ℕ) (offset piece n : ℕ)
    → remaining ≡ option_map (λ bs. drop offset bs) whole → option_map (λ bs. drop offset bs) whole ≡ Some rest
    → 1 ≤ piece → n ≡ min (min piece (length rest)) (length old) → new ≡ take n rest ++ drop n old
    → Consumes remaining (option_map (λ bs. drop (offset + n) bs) whole) (take n new)
    × (n ≡ 0 → 0 < length new → IsAtEnd (option_map (λ bs. drop (offset + n) bs) whole))
consumed remaining None rest old new offset piece n here is some count copied = cc
consumed remaining (Some bs) rest old new offset piece n here is some count copied =
    let same : drop offset bs ≡ rest = cc in
    let later : drop (offset + n) bs ≡ drop n rest = sym (drop-drop n offset bs) ∙ ap (drop n) same in
    let fits : n ≤ length rest = omega arith in
    rw (here, later, copied)
    (same ∙ prefix rest old n fits, λ none room. drop_all n rest (omega (arith, simp (length-append, length-take, length-drop) at room)))

pub returns-clause-rest_consumed : goal.returns-clause-rest_consumed
returns-clause-rest_consumed c =
    let position = c.unwrap-position.result in
    let whole = bytes_at c.self.inside.files.items position.file in
    let remaining = rw c.unwrap-position.ensures at (sym (ap (λ (s : FilesState). s.rest) c.self.view_is)) in
    consumed c.args.self.now.rest whole c.rest_of-rest.result.now c.args.buf.now c.copy_prefix-count.new.buf
    position.offset c.self.inside.piece c.copy_prefix-count.result
    remaining (rw c.deref.ensures.value at c.rest_of-rest.ensures) c.self.invariant.0
    c.copy_prefix-count.ensures.count c.copy_prefix-count.ensures.bytes
