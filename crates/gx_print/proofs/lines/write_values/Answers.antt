-- A line begins with no value.
use Rattle.gx_print.proofs.WriterLemmas.{line_begins}
use Rattle.gx_print.proofs.lines.write_values.Goals as goal

pub loop-value-init : goal.loop-value-init
loop-value-init c = line_begins c.args.writer.now c.requires
