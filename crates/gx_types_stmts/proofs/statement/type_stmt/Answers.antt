use Rattle.std.proofs.Common.{refl}
use Rattle.std.proofs.lemmas.Result.{IfOk-at_ok}
use Rattle.gx_types_stmts.specs.Makes.{operand_types}
use Rattle.gx_types_stmts.proofs.StatementLemmas.{NamesOperands, typed_body-names}
use Rattle.gx_types_stmts.proofs.statement.type_stmt.Goals as goal

pub returns-clause-named : goal.returns-clause-named
returns-clause-named c =
    let a = operand_types c.in_ok-first.first in
    let b = operand_types c.in_ok-second.second in
    let names = IfOk-at_ok (NamesOperands a b c.args.stmt.now) c.in_ok-body.ensures (typed_body-names a b c.args.stmt.now) in
    rw (c.in_ok-uses.ensures, names, ← c.parts_of-parts.ensures, c.in_ok-first.ensures.numbered, c.in_ok-second.ensures.numbered) refl
