use Rattle.std.proofs.Common.{◌≡◌, ◌++◌, length}
use Rattle.std.specs.List.{flat_map}
use Rattle.gx_cluster_state.specs.Values.{pointed_values}
use Rattle.gx_exec_contents.specs.MadeBlocks.{edges_held}
use Rattle.gx_exec_work.specs.Works.{shown_blocks}
use Rattle.gx_gops.specs.AllEdges.{edges_of_parts}
use Rattle.gx_exec_work.proofs.inputs.edges_in.Given as goal

-- the edges so far and those of the rest are those of all inputs
abbrev pub invariant-loop-rest : goal.invariant-loop-rest
invariant-loop-rest l =
    edges_of_parts l.parts.items ++ flat_map edges_held (shown_blocks (pointed_values l.rest)) ≡ flat_map edges_held (shown_blocks (pointed_values l.inputs))

abbrev pub decreases-loop-rest : goal.decreases-loop-rest
decreases-loop-rest l = length l.rest
