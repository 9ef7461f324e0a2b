use Rattle.std.proofs.Common.{◌≤◌, ◌-◌, ◌↔◌, length, take, IsSome}
use Rattle.std.specs.Io.KnownBytes.{Appends}
use Rattle.gx_outside.proofs.writing.write_all.Given as goal

abbrev pub invariant-loop-done : goal.invariant-loop-done
invariant-loop-done g l = record {
  within : l.done ≤ length l.text;
  known : IsSome (g.S.Sink.written l.sink) ↔ IsSome (g.S.Sink.written l.fn.sink);
  faults : g.S.Sink.faults l.fn.sink ≤ g.S.Sink.faults l.sink;
  so_far : Appends (g.S.Sink.written l.fn.sink) (g.S.Sink.written l.sink) (take l.done l.text);
}

abbrev pub decreases-loop-done : goal.decreases-loop-done
decreases-loop-done g l = length l.text - l.done
