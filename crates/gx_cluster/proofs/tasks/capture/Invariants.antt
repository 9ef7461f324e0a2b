use Rattle.std.proofs.Common.{◌≡◌, Some, map, take}
use Rattle.gx_cluster_state.specs.Values.{pointed_values}
use Rattle.gx_cluster.specs.States.{held_value}
use Rattle.gx_cluster.proofs.tasks.capture.Given as goal

-- the values so far are those of the blocks so far
abbrev pub invariant-loop-b : goal.invariant-loop-b
invariant-loop-b g l = map Some (pointed_values l.inputs.items) ≡ map (held_value l.held.entries) (take l.b-index l.blocks)
