use Rattle.std.proofs.Common.{◌≡◌, drop}
use Rattle.gx_outside.specs.Contents.{bytes_under}
use Rattle.gx_outside.specs.MemFiles.{contents_of}
use Rattle.gx_outside.proofs.mem_files.index_of.Given as goal

-- none of the files so far has the name
abbrev pub invariant-loop-i : goal.invariant-loop-i
invariant-loop-i l = bytes_under l.name (contents_of (drop l.i l.files)) ≡ bytes_under l.name (contents_of l.files)
