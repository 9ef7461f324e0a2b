use Rattle.std.proofs.Common.{◌≡◌, length}
use Rattle.gx_cluster_state.specs.Values.{pointed_values}
use Rattle.gx_exec_contents.specs.PartContents.{first_given, stop_in}
use Rattle.gx_exec_work.specs.Works.{shown_blocks}
use Rattle.gx_exec_work.proofs.inputs.first_stop.Given as goal

-- no input before the rest is stopped
abbrev pub invariant-loop-rest : goal.invariant-loop-rest
invariant-loop-rest l = first_given stop_in (shown_blocks (pointed_values l.rest)) ≡ first_given stop_in (shown_blocks (pointed_values l.inputs))

abbrev pub decreases-loop-rest : goal.decreases-loop-rest
decreases-loop-rest l = length l.rest
