use Rattle.std.proofs.Common.{◌≡◌, ◌∷◌, ◌+◌}
use Rattle.std.specs.Prelude.{None, length, replicate}
use Rattle.gx_cluster_state.proofs.workers.Workers.idle.Given as goal

-- the workers so far are idle
abbrev pub invariant-loop-worker : goal.invariant-loop-worker
invariant-loop-worker g l = record {
  workers : None ∷ l.rest.items ≡ replicate l._worker None;
  count : length l.rest.items + 1 ≡ l._worker;
}
