use Rattle.std.proofs.Common.{◌<◌, arith, length}
use Rattle.gx_syntax_show.specs.ItemPieces.{send_clause_pieces}
use Rattle.gx_syntax_show.proofs.ListWriting.{put_next}
use Rattle.gx_syntax_show.proofs.clauses.put_send_clauses.Goals as goal

pub sends-preserved : goal.sends-preserved
sends-preserved c =
    let below : c.sends.send-index < length c.as_slice-send-items.result.now = omega arith in
    put_next send_clause_pieces c.as_slice-send-items.result.now c.sends.send-index c.send-item.result _ _ _ below c.send-item.is c.sends.invariant c.in_ok-put_send_clause.ensures
