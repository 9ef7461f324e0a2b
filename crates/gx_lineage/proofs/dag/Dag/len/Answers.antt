use Rattle.gx_lineage.proofs.Soundness.{IsSound-from_acyclic}
use Rattle.gx_lineage.proofs.dag.Dag.len.Goals as goal

pub returns-clause-sound : goal.returns-clause-sound
returns-clause-sound c = rw (← c.self.view_is) (IsSound-from_acyclic _ c.self.invariant.2)
