-- The end of a line ends it.
use Rattle.gx_print.proofs.WriterLemmas.{line_ends}
use Rattle.gx_print.proofs.lines.end_line.Goals as goal
use Rattle.gx_print.proofs.lines.end_line.Goals.{in-Ok, in-Err}

pub returns : goal.returns
returns c =
    let made = c.end_record.ensures in
    elim c.match-end_record.branch [
      | in-Ok w ↦
          rw w.result-is
          (line_ends c.args.writer.now c.end_record.new.self
          (record {
            bytes = rw w.in-Ok.is at made.bytes;
            fields = rw w.in-Ok.is at made.fields;
            wrote = rw w.in-Ok.is at made.wrote;
            same = rw w.in-Ok.is at made.same;
          }))
      | in-Err w ↦ rw w.result-is tt
    ]
