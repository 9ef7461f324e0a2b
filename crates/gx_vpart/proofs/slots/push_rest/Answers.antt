use Rattle.std.proofs.Common.{◌<◌, length, false, arith}
use Rattle.std.proofs.lemmas.Option.{slice_get-get_or}
use Rattle.gx_vpart.proofs.Spreading.{SpreadSoFar-blank}
use Rattle.gx_vpart.proofs.slots.push_rest.Goals as goal

pub rest-preserved : goal.rest-preserved
rest-preserved c =
    let within : c.rest._next < length c.args.mask.now = omega arith in
    record { same_rows = λ rows start. rw (c.in_ok-push.ensures, c.empty_row.ensures) (SpreadSoFar-blank _ (c.rest.invariant.same_rows rows start) (slice_get-get_or c.args.mask.now c.rest._next false within)) }
