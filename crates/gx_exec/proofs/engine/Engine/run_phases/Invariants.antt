use Rattle.std.proofs.Common.{◌≡◌, [], drop, map}
use Rattle.gx_exec.proofs.ForcedStatements.{IsPhased, phases_in}
use Rattle.gx_exec.proofs.engine.Engine.run_phases.Given as goal

-- the phases from here on are left
abbrev pub invariant-loop-nodes : goal.invariant-loop-nodes
invariant-loop-nodes l = record {
  phased : IsPhased l.self l.s l.fn.cluster l.fn.events l.cluster l.events (phases_in l.self l.s) (map (λ v. v.items) (drop l.nodes-index l.nodes-items));
  events : l.events ≡ [];
}
