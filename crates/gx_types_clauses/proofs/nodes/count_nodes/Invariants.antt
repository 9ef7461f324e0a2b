use Rattle.gx_types_clauses.specs.ValueTyping.{column_values}
use Rattle.gx_types_clauses.proofs.NodeCounts.{IsCountOf}
use Rattle.gx_types_clauses.proofs.nodes.count_nodes.Given as goal

-- the nodes of the columns passed
abbrev pub invariant-sets : goal.invariant-sets
invariant-sets l = IsCountOf (column_values l.set-items) l.set-index l.count
