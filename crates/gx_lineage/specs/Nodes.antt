-- A node of the graph.
use Rattle.std.specs.Prelude.{List}
use Rattle.gx_lineage.specs.declared.input.Input.{Input}
use Rattle.gx_lineage.specs.declared.node_kind.NodeKind.{NodeKind}

-- what the blocks of a node contain, and the nodes from which they are computed
pub record Node : Type 0 where
  pub kind : NodeKind
  pub inputs : List Input
