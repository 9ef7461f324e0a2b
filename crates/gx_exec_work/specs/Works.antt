-- The work of a planned script, and what its blocks hold.
use Rattle.std.specs.Prelude.{◌≡◌, ℕ, List, [], map, ⊤}
use Rattle.std.specs.List.{AllZip}
use Rattle.gx_cluster_state.specs.Nets.{Net, net_of}
use Rattle.gx_exec_contents.specs.BlockContents.{content_of, recipe_of_block}
use Rattle.gx_exec_contents.specs.PartContents.{Content, Edges, Stopped, Table}
use Rattle.gx_exec_contents.specs.Worlds.{IsSetting, World, source_of}
use Rattle.gx_exec_work.specs.declared.block.Block.{Block}
use Rattle.gx_exec_work.specs.declared.block.Block.TheVariants as block
use Rattle.gx_lineage.specs.Lineage.{IsBlock, block_inputs}
use Rattle.gx_lineage.specs.declared.block_id.BlockId.{BlockId}
use Rattle.gx_plan.specs.Plans.{Planned, PlannedScript}
use Rattle.gx_plan.specs.declared.kind.Kind.{Kind}
use Rattle.gx_plan.specs.declared.kind.Kind.TheVariants as kind
use Rattle.gx_rows.specs.declared.vid.Vid.{Vid}

-- a world, and what was planned of its script
pub record PlannedWorld : Type 0 where
  pub world : World
  pub planned : Planned

-- what a work is made of: loaded rows by part, and a plan of their script with their cut
pub record IsWork (w : World) (plan : PlannedScript) : Type 0 where
  pub setting : IsSetting w plan.planned
  pub source : plan.source ≡ source_of w

-- ---- blocks as contents

abbrev pub shown : Block → Content
shown (block.Table vertices) = Table vertices.value
shown (block.Edges edges) = Edges edges.value
shown (block.Stopped key expr cause) = Stopped (record { key = key; expr = expr; cause = cause })

abbrev pub shown_blocks : List Block → List Content
shown_blocks blocks = map shown blocks

-- the block is in the plan, and the value is its content
pub record IsContentOf (e : PlannedWorld) (b : BlockId) (value : Block) : Type 0 where
  pub block : IsBlock e.planned.lineage b
  pub content : shown value ≡ content_of e.world e.planned b

-- ---- inputs

-- the content is of this kind, or stopped
abbrev pub IsOfKind : Kind → Content → Type 0
IsOfKind kind.Vertices (Table vertices) = ⊤
IsOfKind kind.Edges (Edges edges) = ⊤
IsOfKind k (Stopped stop) = ⊤
IsOfKind _ _ = ⊥

-- each value is of the kind of the node of its input, or stopped
abbrev pub AreOfKinds : PlannedWorld → BlockId → List Block → Type 0
AreOfKinds e b values =
    AllZip (λ c t. IsOfKind (recipe_of_block e.planned c).kind (shown t))
    (block_inputs e.planned.lineage b) values

-- the block is in the plan, and if that is one of the world, the values are of the inputs' kinds
pub record FitsBlock (e : PlannedWorld) (b : BlockId) (values : List Block) : Type 0 where
  pub block : IsBlock e.planned.lineage b
  pub inputs : IsSetting e.world e.planned → AreOfKinds e b values

-- ---- what a block sends

-- what a block of this content sends to partitions: no kind of block sends rows
abbrev pub cargo_in : Content → List (ℕ × Vid)
cargo_in _ = []

abbrev pub freight_of : World → Planned → BlockId → List (ℕ × Vid)
freight_of w p b = cargo_in (content_of w p b)

-- the blocks of a plan, as the cluster machine reads them
abbrev pub net_in : World → Planned → Net
net_in w p = net_of p.lineage (freight_of w p)
