use Rattle.std.proofs.Common.{◌<◌, arith, length}
use Rattle.gx_syntax_show.proofs.ScriptWriting.{put_next_line}
use Rattle.gx_syntax_show.proofs.script.show.Goals as goal

pub statements-preserved : goal.statements-preserved
statements-preserved c =
    let below : c.statements.statement-index < length c.as_slice-statement-items.result.now = omega arith in
    put_next_line c.written_tokens_are_spaced.ensures c.as_slice-statement-items.result.now c.statements.statement-index c.statement-item.result _ _ below c.statement-item.is c.statements.invariant c.in_ok-put_line.ensures
