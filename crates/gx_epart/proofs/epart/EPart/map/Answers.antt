use Rattle.gx_traverse.specs.Steps.{IsTraversal-length}
use Rattle.gx_epart.proofs.epart.EPart.map.Goals as goal

pub with_rows-requires : goal.with_rows-requires
with_rows-requires g c = IsTraversal-length c.in_ok-rows.ensures
