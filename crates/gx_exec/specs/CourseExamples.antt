-- The courses of a script of two statements in two parts.
--
--     vertices t from "t" (); count table t;
use Rattle.std.specs.Prelude.{◌≡◌, ℕ, List, [], ◌∷◌, None, map, refl}
use Rattle.gx_cluster_state.specs.Runs.{Demand}
use Rattle.gx_rows.specs.declared.cut.Cut.TheVariants.{OneD}
use Rattle.gx_exec_contents.specs.Worlds.{World}
use Rattle.gx_lineage.specs.declared.block_id.BlockId.{BlockId}
use Rattle.gx_plan.specs.Plans.{Planned, empty_plan}
use Rattle.gx_types_stmts.specs.StmtNumbers.{named_numbers}
use Rattle.gx_types_stmts.specs.declared.checked_stmt.CheckedStmt.{CheckedStmt}
use Rattle.gx_types_stmts.specs.declared.typed_stmt.TypedStmt.{TypedStmt}
use Rattle.gx_types_stmts.specs.declared.typed_stmt.TypedStmt.TheVariants as stmts
use Rattle.gx_exec.specs.Courses.{answered, forced}

checked_from : TypedStmt → CheckedStmt
checked_from st = record { stmt = st; made = record { vertices = None; edges = None }; uses = named_numbers st }

load_and_count : World
load_and_count = record { script = map checked_from (stmts.Vertices [] ∷ stmts.CountTable 1 ∷ []); loads = []; parts = 2; cut = OneD }

-- no statement was added
none_planned : Planned
none_planned = empty_plan 2 2

both_parts : List BlockId
both_parts = record { node = record { 0 = 0 }; part = 0 } ∷ record { node = record { 0 = 0 }; part = 1 } ∷ []

-- the load demands its two blocks, and so does the action
answered-example : ((answered load_and_count none_planned 2).commands ≡ Demand both_parts ∷ Demand both_parts ∷ [])
    × ((answered load_and_count none_planned 2).fault ≡ None)
unfolding checked_from load_and_count none_planned both_parts
answered-example = (refl, refl)

-- once it was added, nothing is done for it
forced-example : (forced load_and_count (forced load_and_count none_planned 1).planned 1).commands ≡ []
unfolding checked_from load_and_count none_planned
forced-example = refl
