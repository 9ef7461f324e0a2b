-- Actions, and the statements that they name.
use Rattle.std.specs.Prelude.{ℕ, ◌≤◌, ⊤, List, length}
use Rattle.std.specs.List.{AllByRecursion}
use Rattle.gx_types_stmts.specs.declared.checked_stmt.CheckedStmt.{CheckedStmt}
use Rattle.gx_types_stmts.specs.declared.typed_stmt.TypedStmt.{TypedStmt}
use Rattle.gx_types_stmts.specs.declared.typed_stmt.TypedStmt.TheVariants as stmts

-- the statement prints rows or a count
abbrev pub IsAction : TypedStmt → Type 0
IsAction (stmts.PrintVertices g) = ⊤
IsAction (stmts.PrintEdges g) = ⊤
IsAction (stmts.PrintTable t) = ⊤
IsAction (stmts.CountVertices g) = ⊤
IsAction (stmts.CountEdges g) = ⊤
IsAction (stmts.CountTable t) = ⊤
IsAction _ = ⊥

-- statement s, counted from 1, is in the script
abbrev pub IsNumberIn : List CheckedStmt → ℕ → Type 0
IsNumberIn script s = (1 ≤ s) × (s ≤ length script)

abbrev pub AreNumbersIn : List CheckedStmt → List ℕ → Type 0
AreNumbersIn script ss = AllByRecursion (IsNumberIn script) ss
