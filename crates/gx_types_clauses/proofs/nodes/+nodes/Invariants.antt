use Rattle.gx_types_clauses.proofs.NodeCounts.{IsCountOf}
use Rattle.gx_types_clauses.proofs.nodes.+nodes.Given as goal

-- the nodes of the arguments passed
abbrev pub invariant-nodes_of_all-arguments : goal.invariant-nodes_of_all-arguments
invariant-nodes_of_all-arguments l = IsCountOf l.argument-items l.argument-index l.count
