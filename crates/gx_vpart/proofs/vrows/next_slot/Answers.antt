use Rattle.std.proofs.Common.{◌∙◌, Some, ap}
use Rattle.gx_vpart.proofs.MaskedRows.{position-here}
use Rattle.gx_vpart.proofs.vrows.next_slot.Goals as goal

pub returns-then-test : goal.returns-then-test
returns-then-test c = position-here c.args.mask.now c.args.from (c.test.ensures ∙ ap Some c.if-test.true)
