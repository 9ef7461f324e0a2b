use Rattle.std.proofs.Common.{◌≡◌, ◌≤◌, ◌+◌, ◌↔◌, [], None, IsSome}
use Rattle.std.specs.List.{range_with_len}
use Rattle.gx_exec.specs.Courses.{EndsAs, answered_all}
use Rattle.gx_exec.specs.Engines.{point_of}
use Rattle.gx_exec_contents.specs.Worlds.{loaded_in}
use Rattle.gx_run.specs.ActionLogs.{MayAnswerFrom, actions_among}
use Rattle.gx_run.specs.ActionTexts.{HasPrinted}
use Rattle.gx_run.proofs.actions.print_actions.Given as goal

-- the actions so far were answered and have printed their texts
abbrev pub invariant-loop-before : goal.invariant-loop-before
invariant-loop-before g l = record {
  world : l.engine.world ≡ l.fn.engine.world;
  may : MayAnswerFrom (l.before + 1) l.engine l.cluster;
  no_events : l.events ≡ [];
  known : IsSome (g.O.Sink.written l.out) ↔ IsSome (g.O.Sink.written l.fn.out);
  rise : g.O.Sink.faults l.fn.out ≤ g.O.Sink.faults l.out;
  printed : HasPrinted (loaded_in l.fn.engine.world) l.before (g.O.Sink.written l.fn.out) (g.O.Sink.written l.out);
  logged : EndsAs l.fn.engine.world
      (answered_all l.fn.engine.world l.fn.engine.planned (actions_among (loaded_in l.fn.engine.world) (range_with_len 1 l.before)))
      None l.engine.planned (point_of l.fn.cluster l.fn.events) (point_of l.cluster l.events);
}
