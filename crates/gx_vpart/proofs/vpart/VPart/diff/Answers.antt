use Rattle.gx_vpart.specs.Operators.{has_changed}
use Rattle.gx_vpart.proofs.Joining.{picked-beside}
use Rattle.gx_vpart.proofs.Pairs.{IfOk-same}
use Rattle.gx_vpart.proofs.vpart.VPart.diff.Goals as goal

pub returns : goal.returns
returns c =
    IfOk-same c.pick.result _ _ (picked-beside has_changed c.args.other.now c.args.self.now)
    (rw (c.as_slice.ensures.value, c.in_ok-bools.ensures, c.of-beside.ensures, c.rows.ensures.exact, c.rows-2.ensures.exact) at c.pick.ensures)
