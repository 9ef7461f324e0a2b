-- A field makes the line grow.
use Rattle.gx_print.proofs.WriterLemmas.{field_grows}
use Rattle.gx_print.proofs.lines.write_field.Goals as goal
use Rattle.gx_print.proofs.lines.write_field.Goals.{in-Ok, in-Err}

pub returns : goal.returns
returns c =
    let made = c.write_field.ensures in
    elim c.match-write_field.branch [
      | in-Ok w ↦
          rw w.result-is
          (field_grows c.args.writer.now c.write_field.new.self c.args.field.now c.utf8.field
          (record {
            text = rw (w.in-Ok.is, c.as_bytes.ensures.value) at made.text;
            same = rw w.in-Ok.is at made.same;
            count = rw w.in-Ok.is at made.count;
            wrote = rw (w.in-Ok.is, c.as_bytes.ensures.value) at made.wrote;
            stays = rw w.in-Ok.is at made.stays;
          }))
      | in-Err w ↦ rw w.result-is tt
    ]
