-- The graph of nodes, and the blocks from which a block is computed.
use Rattle.std.specs.Prelude.{◌≡◌, ℕ, ◌<◌, List, [], ◌∷◌, ◌++◌, All, Contains, Some, length, map, option_map, slice_get, take, unwrap_or}
use Rattle.std.specs.List.{flat_map, range_with_len}
use Rattle.gx_lineage.specs.declared.block_id.BlockId.{BlockId}
use Rattle.gx_lineage.specs.declared.input.Input.{Input}
use Rattle.gx_lineage.specs.declared.input.Pattern.{Pattern}
use Rattle.gx_lineage.specs.declared.input.Pattern.TheVariants.{Same, All as EachPart}
use Rattle.gx_lineage.specs.declared.node_id.NodeId.{NodeId}
use Rattle.gx_lineage.specs.declared.node_kind.NodeKind.{NodeKind}
use Rattle.gx_lineage.specs.Nodes.{Node}

-- the number of parts of each node, and the nodes by their identifiers
pub record Lineage : Type 0 where
  pub parts : ℕ
  pub nodes : List Node

-- the graph has this node, and the node has this part
pub record IsBlock (l : Lineage) (b : BlockId) : Type 0 where
  pub node : b.node.0 < length l.nodes
  pub part : b.part < l.parts

-- the parts of an input on which part `part` depends under a pattern, if there are `parts` parts
abbrev pub parts_of_pattern : ℕ → ℕ → Pattern → List ℕ
parts_of_pattern parts part Same = part ∷ []
parts_of_pattern parts part EachPart = range_with_len 0 parts

-- the blocks of a node at these parts
abbrev pub blocks_at : NodeId → List ℕ → List BlockId
blocks_at n parts = map (λ p. record { node = n; part = p }) parts

-- the blocks of an input on which part `part` depends
abbrev pub blocks_of_input : ℕ → ℕ → Input → List BlockId
blocks_of_input parts part x = blocks_at x.node (parts_of_pattern parts part x.pattern)

-- the inputs of a node
abbrev pub node_inputs : Lineage → NodeId → List Input
node_inputs l n = unwrap_or (option_map (λ m. m.inputs) (slice_get l.nodes n.0)) []

-- the blocks from which a block is computed, input by input
abbrev pub block_inputs : Lineage → BlockId → List BlockId
block_inputs l b = flat_map (blocks_of_input l.parts b.part) (node_inputs l b.node)

-- each input of a node is an earlier node
abbrev pub IsAcyclic : List Node → Type 0
IsAcyclic nodes = (i : ℕ) (n : Node) → slice_get nodes i ≡ Some n → All (λ x. x.node.0 < i) n.inputs

-- a block is computed from blocks of earlier nodes
pub record IsSound (l : Lineage) : Type 0 where
  pub earlier : (b c : BlockId) → Contains (block_inputs l b) c → c.node.0 < b.node.0
  pub blocks : (b c : BlockId) → IsBlock l b → Contains (block_inputs l b) c → IsBlock l c

-- the graph with one more node
abbrev pub with_node : Lineage → NodeKind → List Input → Lineage
with_node l kind inputs = record l { nodes = l.nodes ++ record { kind = kind; inputs = inputs } ∷ [] }

-- the graph of the first n nodes
abbrev pub first_nodes : ℕ → Lineage → Lineage
first_nodes n l = record l { nodes = take n l.nodes }

-- each block of l is computed from the same blocks in m
abbrev pub KeepsInputs : Lineage → Lineage → Type 0
KeepsInputs l m = (b : BlockId) → IsBlock l b → block_inputs m b ≡ block_inputs l b
