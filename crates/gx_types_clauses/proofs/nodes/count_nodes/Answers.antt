use Rattle.std.proofs.Common.{◌+◌, ◌<◌, ◌^◌, arith}
use Rattle.gx_syntax_tree.specs.Bounds.{node_count}
use Rattle.gx_types_clauses.proofs.NodeCounts.{column-fits, column-more}
use Rattle.gx_types_clauses.proofs.nodes.count_nodes.Goals as goal

pub nodes_of-count-requires : goal.nodes_of-count-requires
nodes_of-count-requires c =
    let fits : c.sets.count + node_count c.set-item.result.value < 2 ^ 32 =
    column-fits c.as_slice-set-items.result.now c.sets.set-index c.sets.count c.set-item.result c.sets-test.true c.set-item.is c.sets.invariant (rw c.as_slice-set-items.ensures c.requires) in
    omega arith

pub overflow_add-count : goal.overflow_add-count
overflow_add-count c =
    let fits : c.sets.count + node_count c.set-item.result.value < 2 ^ 32 =
    column-fits c.as_slice-set-items.result.now c.sets.set-index c.sets.count c.set-item.result c.sets-test.true c.set-item.is c.sets.invariant (rw c.as_slice-set-items.ensures c.requires) in
    omega (arith, c.nodes_of-count.ensures)

pub sets-preserved : goal.sets-preserved
sets-preserved c =
    rw c.nodes_of-count.ensures (column-more c.as_slice-set-items.result.now c.sets.set-index c.sets.count c.set-item.result c.sets-test.true c.set-item.is c.sets.invariant)
