use Rattle.std.proofs.Common.{sym}
use Rattle.gx_epart.proofs.Ends.{slot_of-None, slot_of-Some}
use Rattle.gx_epart.proofs.numbering.number_of.Goals as goal

pub unreachable-requires : goal.unreachable-requires
unreachable-requires c = slot_of-None c.args.v c.args.ends.now (sym (rw c.in-None.is at c.find.ensures)) c.requires

pub returns : goal.returns
returns c = slot_of-Some c.args.v c.args.ends.now c.in-Some.number (sym (rw c.in-Some.is at c.find.ensures))
