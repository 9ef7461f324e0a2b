use Rattle.std.proofs.Common.{◌≡◌, take}
use Rattle.gx_syntax_tokens.specs.Writing.{with_pieces}
use Rattle.gx_syntax_show.specs.ItemPieces.{send_clauses_pieces}
use Rattle.gx_syntax_show.proofs.clauses.put_send_clauses.Given as goal

-- the clauses so far are written
abbrev pub invariant-sends : goal.invariant-sends
invariant-sends l = l.out ≡ with_pieces l.fn.out (send_clauses_pieces (take l.send-index l.send-items))
