use Rattle.std.proofs.Common.{◌≡◌, ◌+◌, length}
use Rattle.gx_exec_loads.specs.Filing.{part_of_row}
use Rattle.gx_exec_loads.proofs.FiledRows.{AreFiledBefore}
use Rattle.gx_exec_loads.proofs.filing.filed.Given as goal

-- the rows before the rest are filed, and the rest begins at position n
abbrev pub invariant-loop-rest : goal.invariant-loop-rest
invariant-loop-rest l = record {
  at : l.n + length l.rest ≡ length l.rows;
  filed : AreFiledBefore (part_of_row l.kind l.cut l.parts) l.parts l.n l.rest l.rows l.positions;
}

abbrev pub decreases-loop-rest : goal.decreases-loop-rest
decreases-loop-rest l = length l.rest
