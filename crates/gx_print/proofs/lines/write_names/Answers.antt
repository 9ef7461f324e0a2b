-- A line begins with no name.
use Rattle.gx_print.proofs.WriterLemmas.{line_begins}
use Rattle.gx_print.proofs.lines.write_names.Goals as goal

pub loop-name-init : goal.loop-name-init
loop-name-init c = line_begins c.args.writer.now c.requires
