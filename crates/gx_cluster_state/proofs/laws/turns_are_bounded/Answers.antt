use Rattle.gx_cluster_state.proofs.TurnBounds.{turns_bounded}
use Rattle.gx_cluster_state.proofs.laws.turns_are_bounded.Goals as goal

pub returns : goal.returns
returns c l f targets bs last s left es closed turns = turns_bounded bs closed turns
