use Rattle.gx_types.proofs.BuiltLemmas.{AreBuilt}
use Rattle.gx_types.proofs.built.check_built.Given as goal

-- the statements passed are run
abbrev pub invariant-statements : goal.invariant-statements
invariant-statements l = AreBuilt l.stmt-items l.stmt-index l.number
