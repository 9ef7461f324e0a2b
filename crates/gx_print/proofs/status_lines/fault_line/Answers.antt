-- The line is that of its key and cause.
use Rattle.gx_print.specs.StatusLines.{fault_line}
use Rattle.gx_print.proofs.status_lines.fault_line.Goals as goal

pub returns : goal.returns
unfolding fault_line
returns c = rw (c.in_ok-key.ensures, c.cause_message-cause.ensures) at c.in_ok-format.ensures.ok
