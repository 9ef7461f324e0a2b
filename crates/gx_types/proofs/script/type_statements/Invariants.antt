use Rattle.gx_types.proofs.ScriptWalk.{AreTypedStmts}
use Rattle.gx_types.proofs.script.type_statements.Given as goal

-- the statements passed are checked
abbrev pub invariant-statements : goal.invariant-statements
invariant-statements l = AreTypedStmts l.stmt-items l.stmt-index l.known l.typed.items
