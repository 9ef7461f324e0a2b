use Rattle.std.proofs.Common.{◌≡◌, ◌<◌, ℕ, List, true, length, drop, get_or, refl, sym, ◌∙◌, arith}
use Rattle.std.proofs.Math.Seq.{drop-cons}
use Rattle.std.proofs.lemmas.Option.{slice_get_read}
use Rattle.std.specs.Prelude.{String, string_bytes, Vec}
use Rattle.std.specs.Str.{bytes_eq}
use Rattle.std.specs.declared.alloc.Global.{Global}
use Rattle.gx_outside.specs.Contents.{bytes_under}
use Rattle.gx_outside.specs.MemFiles.{contents_of, bytes_at}
use Rattle.gx_outside.proofs.mem_files.index_of.Goals as goal

-- the bytes under a name are those of the next file where that has the name
next : (files : List (String Global × Vec ℕ Global)) (i : ℕ) (file : String Global × Vec ℕ Global) (name : List ℕ)
    → i < length files → file ≡ get_or files i file → bytes_eq (string_bytes file.0) name ≡ true
    → bytes_at files i ≡ bytes_under name (contents_of (drop i files))
next files i file name within is same =
    rw (drop-cons files i file within, ← is, same, slice_get_read files (length files) i file refl within is) refl

pub returns-then-eq-clause-first : goal.returns-then-eq-clause-first
returns-then-eq-clause-first c =
    next c.args.files.now c.loop-i.i c.index-files-i.result c.args.name.now (omega arith) c.index-files-i.is (rw c.as_str.ensures.value at (sym c.if-eq.ensures)) ∙ c.loop-i.invariant
