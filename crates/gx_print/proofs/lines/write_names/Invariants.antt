use Rattle.std.proofs.Common.{take}
use Rattle.gx_print.specs.WriterStates.{IsInLine, written_text}
use Rattle.gx_print.proofs.lines.write_names.Given as goal

-- the names so far are written
abbrev pub invariant-loop-name : goal.invariant-loop-name
invariant-loop-name l = IsInLine (written_text l.fn.writer) (take l.name-index l.names) l.writer
