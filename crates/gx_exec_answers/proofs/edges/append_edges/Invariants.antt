use Rattle.std.proofs.Common.{◌≡◌, ◌++◌, drop}
use Rattle.gx_epart.specs.Edges.{edges_lent}
use Rattle.gx_exec_answers.proofs.edges.append_edges.Given as goal

-- the edges so far and those from position i on are all edges
abbrev pub invariant-loop-i : goal.invariant-loop-i
invariant-loop-i l = edges_lent l.edges.items ++ drop l.i l.part ≡ edges_lent l.fn.edges.items ++ l.part
