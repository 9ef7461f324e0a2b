use Rattle.std.proofs.Common.{drop}
use Rattle.gx_traverse.specs.Calls.{ReturnsAtEdge}
use Rattle.gx_traverse.specs.Steps.{SoFar}
use Rattle.gx_epart.proofs.epart.EPart.traverse.Given as goal

-- each edge so far has its value
abbrev pub invariant-loop-i : goal.invariant-loop-i
invariant-loop-i g l = SoFar (ReturnsAtEdge (goal.F-post g l.f)) l.self (drop l.i l.self) l.values.items
