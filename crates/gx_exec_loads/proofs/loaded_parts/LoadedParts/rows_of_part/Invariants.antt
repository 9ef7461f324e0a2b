use Rattle.std.proofs.Common.{◌≡◌, drop}
use Rattle.gx_model.specs.Values.{rows_loaded}
use Rattle.gx_exec_loads.proofs.loaded_parts.LoadedParts.rows_of_part.Given as goal

-- no load before position i is that of the statement
abbrev pub invariant-loop-i : goal.invariant-loop-i
invariant-loop-i l = rows_loaded (drop l.i l.self.loads) l.s ≡ rows_loaded l.self.loads l.s
