use Rattle.std.proofs.Common.{rules}
use Rattle.gx_types.proofs.ScriptWalk.{typed-next}
use Rattle.gx_types.proofs.SoundScripts.{walked-sound}
use Rattle.gx_types.proofs.script.type_statements.Goals as goal

pub statements-preserved : goal.statements-preserved
statements-preserved c =
    typed-next c.as_slice-stmt-items.result.now c.statements.stmt-index c.statements.known c.type_next.new.known c.statements.typed.items c.append.new.typed.items c.stmt-item.result c.in_ok-next.next c.statements-test.true c.stmt-item.is c.statements.invariant
    c.in_ok-next.ensures.typed c.in_ok-next.ensures.added c.in_ok-next.ensures.earlier c.in_ok-next.ensures.named c.in_ok-append.ensures.appended

pub of-requires-clause-sound : goal.of-requires-clause-sound
of-requires-clause-sound c =
    walked-sound c.as_slice-stmt-items.result.now c.statements.stmt-index c.statements.known c.statements.typed.items c.statements-test.false c.statements.invariant (search rules)
