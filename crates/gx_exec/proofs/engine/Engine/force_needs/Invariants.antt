use Rattle.std.proofs.Common.{◌≡◌, [], drop}
use Rattle.gx_exec.proofs.AnsweredActions.{IsForcing}
use Rattle.gx_exec.proofs.engine.Engine.force_needs.Given as goal

-- the statements from here on are left
abbrev pub invariant-loop-s : goal.invariant-loop-s
invariant-loop-s l = record {
  forcing : IsForcing l.a l.fn.self l.fn.cluster l.fn.events l.self l.cluster l.events (drop l.s-index l.s-items);
  events : l.events ≡ [];
}
