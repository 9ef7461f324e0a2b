use Rattle.std.proofs.Common.{◌≡◌, take}
use Rattle.std.specs.List.{flat_map}
use Rattle.gx_lineage.specs.Lineage.{blocks_of_input}
use Rattle.gx_lineage.proofs.dag.Dag.inputs.Given as goal

-- the blocks of the inputs so far are listed
abbrev pub invariant-loop-input : goal.invariant-loop-input
invariant-loop-input l =
    l.blocks.items ≡ flat_map (blocks_of_input l.self-inside.parts l.b.part) (take l.input-index l.input-items)
