use Rattle.std.proofs.Common.{◌≡◌, false, rules}
use Rattle.gx_vpart.proofs.Spreading.{IsSpreadUpTo-blank}
use Rattle.std.proofs.Common.{ap, Some, ◌∙◌}
use Rattle.gx_vpart.proofs.slots.skip_unmasked.Goals as goal

pub unmasked-preserved : goal.unmasked-preserved
unmasked-preserved c =
    let there : c.test.result ≡ false = search rules in
    record { same_rows = λ rows start. rw (c.in_ok-push.ensures, c.empty_row.ensures) (IsSpreadUpTo-blank (c.unmasked.invariant.same_rows rows start) (c.test.ensures ∙ ap Some there)) }
