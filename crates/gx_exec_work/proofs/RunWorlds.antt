-- A script that is well typed may be run.
use Rattle.std.proofs.Common.{◌≡◌, ℕ, ◌-◌, ◌<◌, true, All, List, Option, Some, None, option_map, slice_get, unwrap_or, refl}
use Rattle.gx_exec_contents.specs.Worlds.{IsWorld, World, is_modelled, source_of}
use Rattle.gx_plan.specs.PlanLaws.{HasSorts, MoveByEnds, MovesByEnds}
use Rattle.gx_plan.specs.StmtNodes.{statement_of}
use Rattle.gx_types.specs.Built.{is_run}
use Rattle.gx_types.specs.Needs.{NamesAreUsed, UseEarlier}
use Rattle.gx_types.specs.SoundStmts.{AreRun}
use Rattle.gx_types_stmts.specs.declared.checked_stmt.CheckedStmt.{CheckedStmt}
use Rattle.gx_types_stmts.specs.declared.typed_stmt.TypedStmt.{TypedStmt}
use Rattle.gx_types_stmts.specs.declared.typed_stmt.TypedStmt.TheVariants as stmts

-- the model gives each statement that is run a value, or it is an action
run-modelled : (st : TypedStmt) → is_run st ≡ true → is_modelled st ≡ true
run-modelled (stmts.Vertices file) run = refl
run-modelled (stmts.Edges file) run = refl
run-modelled (stmts.EdgeList file oriented) run = refl
run-modelled (stmts.Graph t e default) run = refl
run-modelled (stmts.FromEdges e row) run = refl
run-modelled (stmts.Partition g cut) run = refl
run-modelled (stmts.MapVertices g sets) run = refl
run-modelled (stmts.Filter t condition) run = refl
run-modelled (stmts.MapValues t sets) run = refl
run-modelled (stmts.Minus t u) run = refl
run-modelled (stmts.Diff t u) run = refl
run-modelled (stmts.InnerJoin t u sets) run = refl
run-modelled (stmts.LeftJoin t u default sets) run = refl
run-modelled (stmts.PrintVertices g) run = refl
run-modelled (stmts.PrintEdges g) run = refl
run-modelled (stmts.PrintTable t) run = refl
run-modelled (stmts.CountVertices g) run = refl
run-modelled (stmts.CountEdges g) run = refl
run-modelled (stmts.CountTable t) run = refl
run-modelled _ run = cc

-- what holds of each statement, by its number
at-number : (P : TypedStmt → Type 0) → P (stmts.CountTable 0) → (script : List CheckedStmt) → ((i : ℕ) (t : CheckedStmt) → slice_get script i ≡ Some t → P t.stmt) → (s : ℕ) → P (statement_of script s)
at-number P none script all s = by (slice_get script (s - 1)) refl
  where
    by : (o : Option CheckedStmt) → slice_get script (s - 1) ≡ o → P (unwrap_or (option_map (λ c. c.stmt) o) (stmts.CountTable 0))
    by None e = none
    by (Some t) e = all (s - 1) t e

pub world-runs : (w : World) → 0 < w.parts → UseEarlier w.script → All NamesAreUsed w.script → HasSorts (source_of w) → AreRun w.script → MoveByEnds w.script → IsWorld w
world-runs w some_parts earlier named sorts run by_ends = record {
  some_parts = some_parts;
  earlier = earlier;
  named = named;
  sorts = sorts;
  modelled = at-number (λ st. is_modelled st ≡ true) refl w.script (λ i t at. run-modelled t.stmt (run i t at));
  by_ends = at-number MovesByEnds tt w.script by_ends;
}
