use Rattle.gx_vpart.specs.Operators.{has_no_partner}
use Rattle.gx_vpart.proofs.Joining.{picked-beside}
use Rattle.gx_vpart.proofs.Pairs.{IfOk-same}
use Rattle.gx_vpart.proofs.vpart.VPart.minus.Goals as goal

pub returns : goal.returns
returns c =
    IfOk-same c.pick.result _ _ (picked-beside has_no_partner c.args.self.now c.args.other.now)
    (rw (c.as_slice.ensures.value, c.in_ok-bools.ensures, c.of-beside.ensures, c.rows.ensures.exact, c.rows-2.ensures.exact) at c.pick.ensures)
