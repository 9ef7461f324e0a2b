use Rattle.gx_exec_loads.proofs.FiledRows.{AreLoadsFiled}
use Rattle.gx_exec_loads.proofs.loaded_parts.file_loads.Given as goal

-- the loads before position i are filed
abbrev pub invariant-loop-i : goal.invariant-loop-i
invariant-loop-i l = AreLoadsFiled (record { script = l.typed; loads = l.loads; parts = l.parts; cut = l.cut }) l.i l.all.items
