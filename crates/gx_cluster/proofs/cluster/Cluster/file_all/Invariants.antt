use Rattle.std.proofs.Common.{drop, List, ℕ}
use Rattle.gx_rows.specs.declared.vid.Vid.{Vid}
use Rattle.gx_lineage.specs.declared.block_id.BlockId.{BlockId}
use Rattle.gx_cluster_state.specs.Nets.{net_of}
use Rattle.gx_cluster.specs.Agendas.{IsAgenda}
use Rattle.gx_cluster.specs.States.{shape}
use Rattle.gx_cluster.proofs.cluster.Cluster.file_all.Given as goal

-- the other blocks are still to be filed
abbrev pub invariant-loop-b : goal.invariant-loop-b
invariant-loop-b g l = (f : BlockId → List (ℕ × Vid)) (targets : List BlockId)
    → IsAgenda (net_of l.dag f) targets (shape l.self) l.fn.agenda l.blocks
    → IsAgenda (net_of l.dag f) targets (shape l.self) l.agenda (drop l.b-index l.blocks)
