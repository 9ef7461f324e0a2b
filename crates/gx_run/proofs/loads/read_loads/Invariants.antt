use Rattle.std.proofs.Common.{◌≡◌, ◌≤◌, length}
use Rattle.gx_run.specs.LoadedFiles.{HasLoaded, HasSumsWithin, loaded_seen}
use Rattle.gx_run.proofs.loads.read_loads.Given as goal

-- the files of the statements so far are loaded
abbrev pub invariant-loop-before : goal.invariant-loop-before
invariant-loop-before g l = record {
  kept : g.F.Files.contents l.files ≡ g.F.Files.contents l.fn.files;
  rise : g.F.Files.faults l.fn.files ≤ g.F.Files.faults l.files;
  loaded : HasLoaded (g.F.Files.contents l.fn.files) l.typed l.before (loaded_seen l.so_far);
  sums : HasSumsWithin l.so_far;
  few : length l.so_far.loads ≤ l.before;
}
