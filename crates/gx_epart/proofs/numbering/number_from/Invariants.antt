use Rattle.std.proofs.Common.{◌-◌, length}
use Rattle.gx_epart.proofs.numbering.number_from.Given as goal

abbrev pub decreases-loop-number : goal.decreases-loop-number
decreases-loop-number l = length l.ends - l.number
