use Rattle.std.proofs.Common.{subst}
use Rattle.gx_types.specs.SoundStmts.{HaveFewColumns}
use Rattle.gx_types.proofs.typed.Typed.statements_are_sound.Goals as goal

pub returns-clause-columns : goal.returns-clause-columns
returns-clause-columns c = subst HaveFewColumns c.self.view_is c.self.invariant.columns
