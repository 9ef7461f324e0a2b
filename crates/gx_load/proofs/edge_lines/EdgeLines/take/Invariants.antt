use Rattle.std.proofs.Common.{◌≡◌, ◌+◌, ◌<◌, ◌^◌, length}
use Rattle.gx_load.specs.EdgeLists.{edge_lines_from}
use Rattle.gx_load.proofs.edge_lines.EdgeLines.take.Given as goal

abbrev pub invariant-loop-self : goal.invariant-loop-self
invariant-loop-self l = record {
  remaining : edge_lines_from (l.self-inside.passed + 1) l.self-inside.rest.now ≡ l.fn.self;
  few : l.self-inside.passed + length l.self-inside.rest.now < 2 ^ 32;
}

abbrev pub decreases-loop-self : goal.decreases-loop-self
decreases-loop-self l = length l.self-inside.rest.now
