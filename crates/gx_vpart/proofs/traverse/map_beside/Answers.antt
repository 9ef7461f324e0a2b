use Rattle.std.proofs.Common.{refl}
use Rattle.gx_vpart.proofs.Mapping.{RowsSoFar-more}
use Rattle.gx_vpart.proofs.traverse.map_beside.Goals as goal

pub rows-preserved : goal.rows-preserved
rows-preserved g c = record {
  can = tt;
  ends = tt;
  made = RowsSoFar-more _ _ c.in-Ok.value c.in_ok-slot-in-Ok.slot _ c.rows.invariant.made c.in-Some.ensures.steps (c.in-Some.row, c.in-Some.other, refl, refl, c.in-Ok.ensures) c.in_ok-slot-in-Ok.ensures;
}
