use Rattle.gx_types_exprs.proofs.Soundness.{accepted_is_well_typed}
use Rattle.gx_types_exprs.proofs.laws.accepted_exprs_are_well_typed.Goals as goal

pub returns : goal.returns
returns c = accepted_is_well_typed
