use Rattle.std.proofs.Common.{◌≡◌, ◌≤◌, ◌-◌, true, vec_len}
use Rattle.std.specs.Io.KnownBytes.{Consumes}
use Rattle.gx_load.proofs.reading.read_at_most.Given as goal

abbrev pub invariant-loop-piece : goal.invariant-loop-piece
invariant-loop-piece g l = record {
  contents : g.F.Files.contents l.files ≡ g.F.Files.contents l.fn.files;
  opened : g.F.Files.is_open l.files ≡ true;
  faults : g.F.Files.faults l.fn.files ≤ g.F.Files.faults l.files;
  room : vec_len l.bytes ≤ l.most;
  so_far : Consumes (g.F.Files.rest l.fn.files) (g.F.Files.rest l.files) l.bytes.items;
}

abbrev pub decreases-loop-piece : goal.decreases-loop-piece
decreases-loop-piece g l = l.most - vec_len l.bytes
